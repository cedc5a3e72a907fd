use Rattle.std.proofs.Common.{◌+◌, drop}
use Rattle.sm_replay.proofs.EnteringLoops.{tells_next, all_told, drop_item}
use Rattle.sm_replay.proofs.entering.tell_all.Goals as goal
use Rattle.std.proofs.lemmas.List.{drop_all}

pub loop-notice-preserved : goal.loop-notice-preserved
loop-notice-preserved c d ws s tr lives is fits =
    let i = c.loop-notice.notice-index in
    let xs = c.args.notices.now in
    let x = c.notice-item.result in
    tells_next d c.args.node ws x (drop (i + 1) xs) c.loop-notice.tables c.tell.new.tables
    (rw (drop_item xs i x c.loop-notice-test.true c.notice-item.is) at
    (c.loop-notice.invariant d ws s tr lives is fits)) fits
    c.in_ok-tell.ensures

pub returns : goal.returns
returns c d ws s tr lives is fits =
    all_told d c.args.node ws c.loop-notice.tables
    (rw (drop_all c.loop-notice.notice-index c.args.notices.now c.loop-notice-test.false) at
    (c.loop-notice.invariant d ws s tr lives is fits))
