use Rattle.sm_matrices.proofs.Rows.{AddedPairs}
use Rattle.sm_matrices.specs.Uniting.{in_batch}
use Rattle.sm_matrices.proofs.batch.Batch.add_to.Given as goal

abbrev pub invariant-loop-s : goal.invariant-loop-s
invariant-loop-s l = AddedPairs l.initial.rows.items l.rows.items (in_batch l.self) l.s
