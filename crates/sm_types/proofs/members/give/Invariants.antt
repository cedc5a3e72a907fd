use Rattle.std.proofs.Common.{take}
use Rattle.sm_types.specs.Members.{Given}
use Rattle.sm_types.proofs.members.give.Given as goal

abbrev pub invariant-loop-name : goal.invariant-loop-name
invariant-loop-name l = Given l.initial.members.items l.members.items l.attributes (take l.name-index l.name-items) l.t
