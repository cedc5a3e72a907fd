use Rattle.sm_matrices.specs.Matrices.{IsUnion}
use Rattle.sm_matrices.proofs.matrix.Matrix.union_of.Given as goal

abbrev pub invariant-loop-bit : goal.invariant-loop-bit
invariant-loop-bit l = IsUnion l.matrices l.count l.set.0 l.bit l.joined
