use Rattle.std.proofs.Common.{[]}
use Rattle.sm_matrices.specs.Matrices.{AllCompiled}
use Rattle.sm_matrices.proofs.matrix.empty_matrices.Given as goal

abbrev pub invariant-loop : goal.invariant-loop
invariant-loop l = AllCompiled [] l.count l.counter l.matrices.items
