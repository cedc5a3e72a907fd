use Rattle.std.proofs.Common.{sym, ap, ◌∙◌}
use Rattle.std.specs.Prelude.{is_some, Option}
use Rattle.sm_history.specs.declared.held.Held.{Held}
use Rattle.sm_history.specs.Tables.{slot}
use Rattle.sm_grants.specs.Slots.{granted_slot}
use Rattle.sm_grants.proofs.Indexed.{kept_put, node_again}
use Rattle.sm_grants.proofs.handles.Handles.grant.Goals as goal

pub invariant_of-self : goal.invariant_of-self
invariant_of-self c =
    let slots = c.self.inside.slots.items in
    let at = rw (← c.self.view_is) at c.at.ensures in
    let held = ap (λ (o : Option Held). is_some o) (sym at ∙ c.in-Some-at.is) in
    kept_put slots c.add_one.new.slots.items _ _ _ c.in-Some.i (granted_slot c.args.node (slot slots c.in-Some.i))
    (c.add_one.ensures.put c.args.node) (node_again _ c.args.node held) c.add_one.ensures.long c.add_one.ensures.same
    c.self.invariant
