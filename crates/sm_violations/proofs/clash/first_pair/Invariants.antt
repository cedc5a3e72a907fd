use Rattle.std.proofs.Common.{◌≡◌, ◌<◌, ◌*◌, ◌-◌, ℕ, length, false}
use Rattle.sm_neverallow.specs.Violating.{both_join}
use Rattle.sm_violations.proofs.clash.first_pair.Given as goal

abbrev pub invariant-sources : goal.invariant-sources
invariant-sources l = (s t : ℕ) → s < l.from → both_join s t l.allow l.never ≡ false

abbrev pub decreases-sources : goal.decreases-sources
decreases-sources l = 64 * length l.allow.sources - l.from
