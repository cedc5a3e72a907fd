use Rattle.std.proofs.Common.{◌≡◌, None, ap}
use Rattle.sm_history.specs.Tables.{client_row_of}
use Rattle.sm_replay.proofs.AfterClientRows.{live_row, tracks_gives}
use Rattle.sm_replay.proofs.live.give_to.Goals as goal

pub returns-in_default : goal.returns-in_default
returns-in_default c d s tr may =
    let none : client_row_of c.args.live.now.items c.args.client ≡ None =
    rw (← c.deref.ensures.value) c.in_default.ensures in
    absurd (live_row d c.args.live.now.items c.args.client tr may.0 none)

pub returns : goal.returns
returns c d s tr may =
    let at = rw c.deref.ensures.value at c.in-Some.ensures in
    tracks_gives d c.args.live.now.items c.args.client c.in-Some.i c.args.node c.args.number
    c.index_mut.result.now c.give.new.row s may at c.index_mut.ensures.value c.in_ok-give.ensures.client
    c.in_ok-give.ensures.who (ap (λ v. v.items) c.in_ok-give.ensures.waiting) c.in_ok-give.ensures.held tr
