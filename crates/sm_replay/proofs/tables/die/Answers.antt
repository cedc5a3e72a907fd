use Rattle.std.proofs.Common.{sym, ap, ◌∙◌}
use Rattle.std.specs.Prelude.{filter, not, ◌==◌}
use Rattle.sm_history.proofs.AfterWatches.{watches_dies}
use Rattle.sm_replay.proofs.tables.die.Goals as goal

pub returns : goal.returns
returns c d s tr may =
    let live = c.remove_client.ensures d s tr.live may in
    let names = c.remove_names.ensures d tr.names in
    let watches = c.remove_watches.ensures ∙ ap (filter (λ w. not (c.args.client == w.client))) tr.watches
    ∙ sym (watches_dies d c.args.client) in assumption
