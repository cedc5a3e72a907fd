use Rattle.std.proofs.Common.{◌<◌, arith}
use Rattle.sm_bits.proofs.Shared.{one_is, one_here, one_elsewhere}
use Rattle.sm_bits.proofs.shared_set.SharedSet.next.Goals as goal
use Rattle.sm_bits.proofs.shared_set.SharedSet.next.Goals.{else-from-i-via-then-from-i+else-i-self}
use Rattle.sm_bits.proofs.shared_set.SharedSet.next.Goals.{else-from-i-via-else-from-i}

pub returns-then-i-self-clause-some : goal.returns-then-i-self-clause-some
returns-then-i-self-clause-some c =
    let one = one_is _ _ _ _ _ c.self.view_is c.in-One.is c.from-i.ensures in (
      c.if-from-i.true,
      omega (arith, one.room, c.if-i-self.true),
      one_here c.args.self.now c.self.inside.words c.from-i.result one c.if-i-self.true,
    )

pub returns-then-i-self-clause-first : goal.returns-then-i-self-clause-first
returns-then-i-self-clause-first c j after before =
    let one = one_is _ _ _ _ _ c.self.view_is c.in-One.is c.from-i.ensures in
    one_elsewhere c.args.self.now c.self.inside.words c.from-i.result j one (omega (arith, before))

pub returns-else-from-i-clause-none : goal.returns-else-from-i-clause-none
returns-else-from-i-clause-none c j after =
    let one = one_is _ _ _ _ _ c.self.view_is c.in-One.is c.from-i.ensures in
    elim c.else-from-i.branch [
      | else-from-i-via-then-from-i+else-i-self w ↦ one.outside j w.if-i-self.false
      | else-from-i-via-else-from-i w ↦ (let below : c.from-i.result < c.args.from = w.if-from-i.false in
          one_elsewhere c.args.self.now c.self.inside.words c.from-i.result j one (omega (arith, below, after)))
    ]
