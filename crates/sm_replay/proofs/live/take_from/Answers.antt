use Rattle.std.proofs.Common.{refl}
use Rattle.sm_replay.proofs.AfterClientRows.{tracks_takes}
use Rattle.sm_replay.proofs.live.take_from.Goals as goal

pub returns : goal.returns
returns c d tr live =
    let at = rw c.deref.ensures.value at c.in-Some.ensures in
    tracks_takes d c.args.live.now.items c.args.client c.in-Some.i c.index_mut.result.now _ at
    c.index_mut.ensures.value refl refl refl c.take_first.ensures tr
