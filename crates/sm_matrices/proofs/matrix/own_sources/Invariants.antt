use Rattle.sm_matrices.proofs.Rows.{OwnTo}
use Rattle.sm_matrices.proofs.matrix.own_sources.Given as goal
use Rattle.std.proofs.Common.{◌+◌, ◌/◌}

abbrev pub invariant-loop-s : goal.invariant-loop-s
invariant-loop-s l = OwnTo l.rows l.own (l.fn.count / 64 + 1) l.s
