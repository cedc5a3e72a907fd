use Rattle.std.proofs.Common.{refl}
use Rattle.sm_account.proofs.Staying.{both}
use Rattle.sm_account.proofs.gathering.gather.Goals as goal

pub invariant_of-into : goal.invariant_of-into
invariant_of-into g c =
    let two = c.into_parts-slot in
    rw c.join.ensures (both c.into.inside.token.seen two.result.0.seen c.meet.new.admin.seen _ _ c.into.invariant
    two.ensures.parts c.meet.ensures.admin.begins c.meet.ensures.slot)

pub returns-clause-told : goal.returns-clause-told
returns-clause-told g c = rw (c.join.ensures, c.into_parts-slot.ensures.told, ← c.into.view_is) refl

pub returns-clause-goes_on : goal.returns-clause-goes_on
returns-clause-goes_on g c = rw (← c.into.view_is) c.meet.ensures.admin
