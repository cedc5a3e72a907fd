use Rattle.std.proofs.Common.{◌∙◌}
use Rattle.sm_names.proofs.TrackedWatches.{watches_counted}
use Rattle.sm_names.proofs.watch_list.WatchList.len.Goals as goal

pub returns-clause-tracks : goal.returns-clause-tracks
returns-clause-tracks c d tr = c.len.ensures ∙ c.args.self.now.list.ok.0
    ∙ watches_counted d c.args.self.now.list.items tr
