use Rattle.std.proofs.Common.{◌<◌, ◌+◌, ℕ}
use Rattle.sm_matrices.specs.Matrices.{matrix}
use Rattle.sm_neverallow.specs.Hitting.{UnionMisses}
use Rattle.sm_neverallow.proofs.hits.is_hit.Given as goal

abbrev pub invariant-loop-j : goal.invariant-loop-j
invariant-loop-j l = (j : ℕ) → j < l.j → UnionMisses (matrix l.all j) (l.first + j) l.rule
