use Rattle.sm_names.proofs.TrackedWatches.{tracks_watches}
use Rattle.sm_names.proofs.watch_list.WatchList.add.Goals as goal

pub returns-clause-tracks : goal.returns-clause-tracks
returns-clause-tracks c d tr live =
    let within = rw c.deref.ensures.value at c.place_behind-place.ensures.within in
    let parts = rw (c.deref.ensures.value, c.bytes.ensures) at c.place_behind-place.ensures.parts in
    rw c.in-Ok.ensures.items
    (tracks_watches d c.args.self.now.list.items c.place_behind-place.result c.args.watch within
    (parts tr.ordered) live tr)
