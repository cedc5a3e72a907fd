use Rattle.std.proofs.Common.{◌∙◌, ap, position}
use Rattle.sm_contexts.specs.Reading.{has_key}
use Rattle.sm_contexts.proofs.Keys.{placed}
use Rattle.sm_contexts.proofs.entries.Entries.place.Goals as goal

pub returns-clause-place : goal.returns-clause-place
returns-clause-place c =
    c.get_index_of.ensures.index
    ∙ (placed c.args.key.now c.self.inside.by_key.entries
    ∙ ap (position (has_key c.args.key.now)) c.self.view_is)
