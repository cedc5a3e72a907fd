use Rattle.sm_grants.proofs.Indexed.{kept_moved}
use Rattle.sm_grants.proofs.handles.Handles.grow.Goals as goal

pub invariant_of-self-2 : goal.invariant_of-self-2
invariant_of-self-2 c = kept_moved c.self.inside.slots.items _ _ _ _ _ _ c.reserve.ensures.items
    c.reserve-2.ensures.entries.2 c.reserve-2.ensures.entries.1 c.self.invariant
