use Rattle.std.proofs.Common.{◌≡◌, ◌<◌, ◌≤◌, ℕ, slice_get, Some}
use Rattle.sm_rules.specs.declared.kept.Kept.{Kept}
use Rattle.sm_neverallow.specs.Violating.{AreApart}
use Rattle.sm_violations.proofs.violations.first_from.Given as goal

abbrev pub invariant-loop-place : goal.invariant-loop-place
invariant-loop-place l = (i : ℕ) (allow : Kept) → l.fn.start ≤ i → i < l.place → slice_get l.allows i ≡ Some allow
    → AreApart allow l.never l.fn.count
