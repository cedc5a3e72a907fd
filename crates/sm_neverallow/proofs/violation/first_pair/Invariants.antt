use Rattle.std.proofs.Common.{◌≡◌, ◌<◌, ℕ, false}
use Rattle.sm_neverallow.specs.Violating.{both_join}
use Rattle.sm_neverallow.proofs.violation.first_pair.Given as goal

abbrev pub invariant-loop-s : goal.invariant-loop-s
invariant-loop-s l = (s t : ℕ) → s < l.s → t < l.count → both_join s t l.a l.b ≡ false
