use Rattle.std.proofs.Common.{◌∙◌, ap}
use Rattle.std.specs.List.{list_any}
use Rattle.sm_contexts.specs.Reading.{has_key}
use Rattle.sm_contexts.proofs.Keys.{any_lookup}
use Rattle.sm_contexts.proofs.entries.Entries.has.Goals as goal

pub returns : goal.returns
returns c = c.contains_key.ensures
    ∙ (any_lookup c.args.key.now c.self.inside.by_key.entries
    ∙ ap (list_any (has_key c.args.key.now)) c.self.view_is)
