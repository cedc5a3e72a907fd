use Rattle.std.proofs.Common.{eqb, sym, arith}
use Rattle.std.proofs.Math.Bool.{or_comm, or-false}
use Rattle.sm_bits.specs.Bits.{has}
use Rattle.sm_bits.proofs.Shared.{one_is}
use Rattle.sm_bits.proofs.shared_set.SharedSet.add_to.Goals as goal

pub insert-requires : goal.insert-requires
insert-requires c =
    let one = one_is _ _ _ _ _ c.self.view_is c.in-One.is c.from-i.ensures in
    omega (arith, one.room, c.requires, c.if-i-self.true)

pub returns-then-i-self-clause-joined : goal.returns-then-i-self-clause-joined
returns-then-i-self-clause-joined c j =
    let one = one_is _ _ _ _ _ c.self.view_is c.in-One.is c.from-i.ensures in
    rw (c.insert.ensures.added j, one.inside j c.if-i-self.true)
    (or_comm (eqb j c.from-i.result) (has c.args.row.now j))

pub returns-else-i-self-clause-joined : goal.returns-else-i-self-clause-joined
returns-else-i-self-clause-joined c j =
    let one = one_is _ _ _ _ _ c.self.view_is c.in-One.is c.from-i.ensures in
    rw (one.outside j c.if-i-self.false) (sym (or-false (has c.args.row.now j)))
