use Rattle.std.proofs.Common.{◌≡◌, ◌<◌, ℕ, false}
use Rattle.sm_neverallow.specs.Violating.{both_join}
use Rattle.sm_neverallow.proofs.violation.meet.Given as goal

abbrev pub invariant-loop-s : goal.invariant-loop-s
invariant-loop-s l = (s : ℕ) → s < l.s → both_join s s l.a l.b ≡ false
