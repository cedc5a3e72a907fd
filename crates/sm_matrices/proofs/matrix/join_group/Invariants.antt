use Rattle.std.specs.Arc.{arc_value}
use Rattle.sm_matrices.proofs.Groups.{JoinedBelow}
use Rattle.sm_matrices.proofs.matrix.join_group.Given as goal

abbrev pub invariant-loop-bit : goal.invariant-loop-bit
invariant-loop-bit l = JoinedBelow l.initial.matrices.items l.matrices.items (arc_value l.group) l.count l.set.0 l.bit
