use Rattle.sm_history.proofs.OnceRows.{placed}
use Rattle.sm_core.proofs.RoomRows.{client, none_newer}
use Rattle.sm_core.proofs.inbox_rooms.room_index.Goals as goal

pub returns-then-newest-client : goal.returns-then-newest-client
returns-then-newest-client c =
    none_newer c.args.rows.now c.args.newest c.args.client c.requires.newer c.if-newest-client.true

pub returns : goal.returns
returns c = placed client c.args.rows.now c.args.client c.row_index.result c.requires.once c.row_index.ensures
