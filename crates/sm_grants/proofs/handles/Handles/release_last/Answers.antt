use Rattle.sm_grants.proofs.Indexed.{kept_last, one_less}
use Rattle.sm_grants.proofs.handles.Handles.release_last.Goals as goal

pub invariant_of-self : goal.invariant_of-self
invariant_of-self c =
    let here = rw (← c.self.view_is) at c.requires in
    kept_last c.self.inside.slots.items c.empty.new.slots.items _ _ _ _ _ _ c.args.i c.args.node c.self.invariant here
    c.empty.ensures.put c.remove.ensures.updates.0 c.remove-2.ensures.removed c.remove-2.ensures.room
    c.empty.ensures.long c.empty.ensures.less
    (one_less c.remove.result _ _ _ c.args.i (c.self.invariant.indexed.index c.args.node c.args.i here)
    c.remove.ensures.value c.remove.ensures.len)
