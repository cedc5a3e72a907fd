use Rattle.std.proofs.Common.{arith}
use Rattle.sm_bits.proofs.Words.{one_has, one_room}
use Rattle.sm_bits.proofs.shared_set.SharedSet.one.Goals as goal

pub returns-clause-room : goal.returns-clause-room
returns-clause-room c = one_room c.args.words c.args.number

pub returns-clause-only : goal.returns-clause-only
returns-clause-only c j = one_has c.args.words c.args.number j (omega (arith, c.requires))
