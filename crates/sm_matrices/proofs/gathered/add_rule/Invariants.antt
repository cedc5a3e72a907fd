use Rattle.std.proofs.Common.{◌*◌, ◌-◌, length}
use Rattle.sm_rules.specs.Keeping.{joins}
use Rattle.sm_matrices.proofs.Rows.{AddedPairs}
use Rattle.sm_matrices.proofs.gathered.add_rule.Given as goal

abbrev pub invariant-loop-s : goal.invariant-loop-s
invariant-loop-s l = AddedPairs l.initial.rows.items l.rows.items (λ s t. joins s t l.rule) l.from

abbrev pub decreases-loop-s : goal.decreases-loop-s
decreases-loop-s l = 64 * length l.rule.sources - l.from
