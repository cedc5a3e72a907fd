use Rattle.std.proofs.Common.{◌∙◌, ap, sym}
use Rattle.std.specs.Prelude.{nat_lt}
use Rattle.sm_history.specs.Services.{same_watch, watches_at}
use Rattle.sm_history.specs.Histories.{watch as make_watch}
use Rattle.sm_names.proofs.TrackedWatches.{any_counted}
use Rattle.sm_names.proofs.watch_list.WatchList.contains.Goals as goal

pub returns : goal.returns
returns c d tr =
    let v = make_watch c.args.client c.args.name.now c.args.object in
    ap (nat_lt 0) (c.count.ensures d tr) ∙ sym (any_counted (same_watch v) (watches_at d))
