use Rattle.std.proofs.Common.{rules}
use Rattle.std.specs.Prelude.{not, ◌==◌}
use Rattle.std.proofs.lemmas.Fn.{filter_same}
use Rattle.sm_history.specs.declared.effect.Watch.{Watch}
use Rattle.sm_names.proofs.TrackedWatches.{tracks_dies}
use Rattle.sm_names.proofs.watch_list.WatchList.remove_client.Goals as goal

pub returns-clause-tracks : goal.returns-clause-tracks
returns-clause-tracks c d tr =
    rw (filter_same _ (λ (w : Watch). not (c.args.client == w.client)) _
    (λ x b f' k. search rules) _ _ c.retain.ensures.filtered)
    (tracks_dies d c.args.client c.args.self.now.list.items tr)
