use Rattle.sm_matrices.proofs.Doubling.{DoubledTo}
use Rattle.sm_matrices.proofs.unions.double.Given as goal

abbrev pub invariant-loop-place : goal.invariant-loop-place
invariant-loop-place l = DoubledTo l.initial.rows.items l.rows.items l.row l.words l.place
