use Rattle.sm_grants.proofs.Indexed.{only_slot}
use Rattle.sm_grants.proofs.handles.Handles.index_by.Goals as goal

pub returns-in-Some-Some-clause-alone : goal.returns-in-Some-Some-clause-alone
returns-in-Some-Some-clause-alone c =
    rw (← c.self.view_is) (only_slot c.self.inside.slots.items _ _ _ c.args.node c.self.invariant)
