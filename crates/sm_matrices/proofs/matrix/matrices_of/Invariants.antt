use Rattle.sm_matrices.proofs.Groups.{Through}
use Rattle.sm_matrices.proofs.matrix.matrices_of.Given as goal

abbrev pub invariant-loop-set : goal.invariant-loop-set
invariant-loop-set l = Through l.rules l.count l.set l.matrices.items
