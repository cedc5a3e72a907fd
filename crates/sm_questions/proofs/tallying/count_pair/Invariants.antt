use Rattle.std.proofs.Common.{take}
use Rattle.std.specs.List.{flat_map}
use Rattle.sm_types.specs.Names.{at}
use Rattle.sm_types.specs.Denoting.{types}
use Rattle.sm_questions.specs.Accesses.{perm_numbers}
use Rattle.sm_questions.specs.RuleChanges.{lost_access}
use Rattle.sm_questions.specs.Tallies.{Adds}
use Rattle.sm_questions.proofs.tallying.count_pair.Given as goal

abbrev pub invariant-loop-bit : goal.invariant-loop-bit
invariant-loop-bit l = Adds l.one l.initial.counts l.counts (flat_map (lost_access l.one l.other
    (at (types l.one.statements) l.source) (at (types l.one.statements) l.target)) (take l.bit perm_numbers))
