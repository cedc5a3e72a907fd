use Rattle.std.proofs.Common.{◌≡◌, ◌<◌, ℕ, Some}
use Rattle.sm_rules.specs.declared.kept.Kept.{Kept}
use Rattle.sm_neverallow.specs.Hitting.{OwnMisses, rule_at}
use Rattle.sm_neverallow.proofs.hits.first_own.Given as goal

abbrev pub invariant-loop-k : goal.invariant-loop-k
invariant-loop-k l = (k : ℕ) (rule : Kept) → k < l.k → rule_at l.rules l.places k ≡ Some rule → OwnMisses l.own rule
