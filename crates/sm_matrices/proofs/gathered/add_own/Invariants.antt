use Rattle.std.proofs.Common.{◌&&◌, nat_eq}
use Rattle.sm_bits.specs.Bits.{has}
use Rattle.sm_matrices.proofs.Rows.{AddedPairs}
use Rattle.sm_matrices.proofs.gathered.add_own.Given as goal

abbrev pub invariant-loop-s : goal.invariant-loop-s
invariant-loop-s l = AddedPairs l.initial.rows.items l.rows.items (λ s t. has l.own s && nat_eq s t) l.s
