use Rattle.std.proofs.Common.{◌≡◌, ◌<◌, ℕ, slice_get, Some}
use Rattle.sm_rules.specs.declared.kept.Kept.{Kept}
use Rattle.sm_neverallow.specs.Violating.{AreApart}
use Rattle.sm_neverallow.proofs.violation.first_of.Given as goal

abbrev pub invariant-loop-i : goal.invariant-loop-i
invariant-loop-i l = (i : ℕ) (allow : Kept) → i < l.i → slice_get l.allows i ≡ Some allow
    → AreApart allow l.never l.count
