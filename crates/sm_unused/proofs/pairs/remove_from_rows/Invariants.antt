use Rattle.std.proofs.Common.{◌*◌, ◌-◌, length}
use Rattle.sm_unused.proofs.Rows.{LackPairs}
use Rattle.sm_unused.proofs.pairs.remove_from_rows.Given as goal

abbrev pub invariant-loop-s : goal.invariant-loop-s
invariant-loop-s l = LackPairs l.initial.rows.items l.rows.items l.rule l.from

abbrev pub decreases-loop-s : goal.decreases-loop-s
decreases-loop-s l = 64 * length l.rule.sources - l.from
