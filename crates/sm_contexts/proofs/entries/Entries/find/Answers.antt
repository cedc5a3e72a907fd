use Rattle.std.proofs.Common.{◌∙◌, ap, find}
use Rattle.sm_contexts.specs.Reading.{has_key}
use Rattle.sm_contexts.proofs.Keys.{found_entry}
use Rattle.sm_contexts.proofs.entries.Entries.find.Goals as goal

pub returns : goal.returns
returns c = found_entry c.args.key.now c.self.inside.by_key.entries c.get.result c.get.ensures.value
    ∙ ap (find (has_key c.args.key.now)) c.self.view_is
