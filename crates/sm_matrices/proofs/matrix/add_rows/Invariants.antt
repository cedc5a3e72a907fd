use Rattle.sm_bits.specs.Bits.{has, row}
use Rattle.sm_matrices.proofs.Rows.{AddedPairs}
use Rattle.sm_matrices.proofs.matrix.add_rows.Given as goal

abbrev pub invariant-loop-s : goal.invariant-loop-s
invariant-loop-s l = AddedPairs l.initial.rows.items l.rows.items (λ s t. has (row l.others s) t) l.s
