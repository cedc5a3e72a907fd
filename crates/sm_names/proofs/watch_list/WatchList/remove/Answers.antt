use Rattle.std.proofs.Common.{rules}
use Rattle.std.specs.Prelude.{not}
use Rattle.std.proofs.lemmas.Fn.{filter_same}
use Rattle.sm_history.specs.declared.effect.Watch.{Watch}
use Rattle.sm_history.specs.Services.{same_watch}
use Rattle.sm_history.specs.Histories.{watch as make_watch}
use Rattle.sm_names.proofs.TrackedWatches.{tracks_unwatches}
use Rattle.sm_names.proofs.watch_list.WatchList.remove.Goals as goal

pub returns-clause-tracks : goal.returns-clause-tracks
returns-clause-tracks c d tr =
    let v = make_watch c.args.client c.args.name.now c.args.object in
    rw (filter_same _ (λ (w : Watch). not (same_watch v w)) _ (λ x b f' k. search rules) _ _ c.retain.ensures.filtered)
    (tracks_unwatches d v c.args.self.now.list.items tr)
