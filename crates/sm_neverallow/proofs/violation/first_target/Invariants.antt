use Rattle.std.proofs.Common.{◌≡◌, ◌<◌, ℕ, false}
use Rattle.sm_neverallow.specs.Violating.{both_join}
use Rattle.sm_neverallow.proofs.violation.first_target.Given as goal

abbrev pub invariant-loop-t : goal.invariant-loop-t
invariant-loop-t l = (t : ℕ) → t < l.t → both_join l.s t l.a l.b ≡ false
