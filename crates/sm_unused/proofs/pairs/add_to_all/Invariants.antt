use Rattle.sm_bits.specs.Bits.{has}
use Rattle.sm_matrices.proofs.Rows.{AddedPairs}
use Rattle.sm_unused.proofs.pairs.add_to_all.Given as goal

abbrev pub invariant-loop-s : goal.invariant-loop-s
invariant-loop-s l = AddedPairs l.initial.rows.items l.rows.items (λ s t. has l.all t) l.s
