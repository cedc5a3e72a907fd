use Rattle.std.proofs.Common.{refl}
use Rattle.sm_replay.proofs.AfterClientRows.{tracks_connects}
use Rattle.sm_replay.proofs.live.add_client.Goals as goal

pub returns : goal.returns
returns c d s tr may =
    rw c.in_ok-push.ensures.items
    (tracks_connects d c.args.client c.args.who c.args.live.now.items _ s may refl refl c.new.ensures.items
    c.new-2.ensures.items tr)
