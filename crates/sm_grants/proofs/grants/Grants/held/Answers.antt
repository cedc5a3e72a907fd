use Rattle.std.proofs.Common.{sym, ◌∙◌}
use Rattle.sm_grants.specs.Rows.{slots_of}
use Rattle.sm_grants.proofs.Tracked.{held_count}
use Rattle.sm_grants.proofs.grants.Grants.held.Goals as goal

pub returns : goal.returns
returns c d tr =
    let slots = slots_of c.args.self.now.rows.items c.args.client in
    c.len_of.ensures.is ∙ sym (held_count d c.args.client slots (tr.slots c.args.client))
