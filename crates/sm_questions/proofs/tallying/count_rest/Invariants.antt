use Rattle.std.proofs.Common.{take}
use Rattle.std.specs.List.{flat_map}
use Rattle.sm_types.specs.Names.{at}
use Rattle.sm_types.specs.Denoting.{types}
use Rattle.sm_questions.specs.RuleChanges.{lost_of_pair}
use Rattle.sm_questions.specs.Tallies.{Adds}
use Rattle.sm_questions.proofs.tallying.count_rest.Given as goal

abbrev pub invariant-loop-target : goal.invariant-loop-target
invariant-loop-target l = Adds l.one l.initial.counts l.counts
    (flat_map (lost_of_pair l.one l.other (at (types l.one.statements) l.source))
    (take l.target (types l.one.statements)))
