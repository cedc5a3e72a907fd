use Rattle.std.proofs.Common.{take}
use Rattle.sm_matrices.specs.Matrices.{AreSetsOf}
use Rattle.sm_matrices.proofs.perm_sets.sets_of.Given as goal

abbrev pub invariant-loop-rule : goal.invariant-loop-rule
invariant-loop-rule l = AreSetsOf (take l.rule-index l.rules) l.sets
