use Rattle.std.proofs.Common.{◌≡◌, ◌<◌, ℕ, Some}
use Rattle.sm_rules.specs.declared.kept.Kept.{Kept}
use Rattle.sm_neverallow.specs.Hitting.{Misses, rule_at}
use Rattle.sm_neverallow.proofs.hits.first_by_rules.Given as goal

abbrev pub invariant-loop-k : goal.invariant-loop-k
invariant-loop-k l = (k : ℕ) (rule : Kept) → k < l.k → rule_at l.rules l.places k ≡ Some rule
    → Misses l.matrix l.count rule
