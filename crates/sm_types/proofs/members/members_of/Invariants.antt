use Rattle.std.proofs.Common.{take}
use Rattle.sm_types.specs.Members.{MembersOf}
use Rattle.sm_types.proofs.members.members_of.Given as goal

abbrev pub invariant-loop-statement : goal.invariant-loop-statement
invariant-loop-statement l = MembersOf (take l.statement-index l.statements) l.symbols l.members.items
