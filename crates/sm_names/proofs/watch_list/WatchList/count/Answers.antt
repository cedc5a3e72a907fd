use Rattle.std.proofs.Common.{◌∙◌, ap}
use Rattle.std.specs.Prelude.{count_by}
use Rattle.sm_history.specs.Services.{same_watch}
use Rattle.sm_history.specs.Histories.{watch as make_watch}
use Rattle.sm_names.proofs.TrackedWatches.{same_counted}
use Rattle.sm_names.proofs.watch_list.WatchList.count.Goals as goal

pub returns : goal.returns
returns c d tr =
    let v = make_watch c.args.client c.args.name.now c.args.object in
    let same = (rw c.deref.ensures.value at c.watchers_of-watchers.ensures.same) tr.ordered in
    c.count_same.ensures ∙ ap (count_by (same_watch v)) same ∙ same_counted d c.args.self.now.list.items v tr
