use Rattle.std.proofs.Common.{◌+◌, ◌*◌, ◌/◌}
use Rattle.sm_matrices.specs.Uniting.{Unites, AreWide}
use Rattle.sm_matrices.proofs.matrix.unions_of.Given as goal

abbrev pub invariant-loop-k : goal.invariant-loop-k
invariant-loop-k l = record {
  wide : AreWide (l.count / 64 + 1) l.unions;
  united : Unites l.rows (8 * l.group) l.k l.unions;
}
