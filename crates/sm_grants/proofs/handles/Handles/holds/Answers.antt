use Rattle.std.proofs.Common.{◌∙◌}
use Rattle.sm_grants.proofs.Tracked.{in_slots}
use Rattle.sm_grants.proofs.handles.Handles.holds.Goals as goal

pub returns : goal.returns
returns c = c.is_some.ensures ∙ in_slots c.args.self.now.slots c.args.node c.index_of.result c.index_of.ensures.found
