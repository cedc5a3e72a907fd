use Rattle.std.proofs.Common.{◌∙◌}
use Rattle.sm_grants.proofs.Indexed.{index_found, inside_most, only_slot}
use Rattle.sm_grants.proofs.handles.Handles.index_of.Goals as goal

pub returns-clause-found : goal.returns-clause-found
returns-clause-found c = rw (← c.self.view_is)
    (index_found c.self.inside.slots.items _ _ _ c.args.node c.copied.result c.self.invariant
    (c.copied.ensures ∙ c.get.ensures.value))

pub returns-clause-small : goal.returns-clause-small
returns-clause-small c = inside_most c.self.inside.slots.items _ _ _ c.args.node c.copied.result c.self.invariant
    (c.copied.ensures ∙ c.get.ensures.value)

pub returns-clause-alone : goal.returns-clause-alone
returns-clause-alone c = rw (← c.self.view_is)
    (only_slot c.self.inside.slots.items _ _ _ c.args.node c.self.invariant)
