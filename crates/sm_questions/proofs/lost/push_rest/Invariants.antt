use Rattle.std.proofs.Common.{◌≡◌, ◌++◌, take}
use Rattle.std.specs.List.{flat_map}
use Rattle.sm_types.specs.Names.{at}
use Rattle.sm_types.specs.Denoting.{types}
use Rattle.sm_questions.specs.Differences.{lost_pair}
use Rattle.sm_questions.proofs.lost.push_rest.Given as goal

abbrev pub invariant-loop-target : goal.invariant-loop-target
invariant-loop-target l = l.held.items ≡ l.initial.held.items
    ++ flat_map (lost_pair l.sign l.one l.other (at (types l.one.statements) l.source))
    (take l.target (types l.one.statements))
