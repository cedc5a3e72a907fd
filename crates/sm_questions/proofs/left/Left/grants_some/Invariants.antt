use Rattle.std.proofs.Common.{◌≡◌, ◌<◌, ℕ, false}
use Rattle.sm_questions.specs.Covering.{grants_at}
use Rattle.sm_questions.proofs.left.Left.grants_some.Given as goal

abbrev pub invariant-loop-bit : goal.invariant-loop-bit
invariant-loop-bit l = (b : ℕ) → b < l.bit → grants_at l.self l.rule b ≡ false
