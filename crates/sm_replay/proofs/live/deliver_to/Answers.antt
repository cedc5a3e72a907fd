use Rattle.std.proofs.Common.{refl}
use Rattle.sm_replay.proofs.AfterClientRows.{tracks_delivers}
use Rattle.sm_replay.proofs.live.deliver_to.Goals as goal

pub returns : goal.returns
returns c d s tr live =
    let at = rw c.deref.ensures.value at c.in-Some.ensures in
    tracks_delivers d c.args.live.now.items c.args.client c.in-Some.i c.args.delivery
    c.index_mut.result.now _ s live at c.index_mut.ensures.value refl refl refl c.in_ok-push.ensures.items tr
