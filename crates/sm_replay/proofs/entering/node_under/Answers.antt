use Rattle.std.proofs.Common.{◌≡◌, None}
use Rattle.sm_history.specs.Tables.{client_row_of}
use Rattle.sm_replay.proofs.AfterClientRows.{live_row}
use Rattle.sm_replay.proofs.entering.node_under.Goals as goal

pub returns-in_err-i : goal.returns-in_err-i
returns-in_err-i c d tr live =
    let none : client_row_of c.args.tables.now.live.items c.args.client ≡ None =
    rw (← c.deref.ensures.value) c.in_err-i.ensures in
    absurd (live_row d c.args.tables.now.live.items c.args.client tr.live live none)
