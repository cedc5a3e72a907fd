use Rattle.sm_history.proofs.OnceRows.{placed}
use Rattle.sm_inbox.proofs.places.inbox_index.Goals as goal

pub returns : goal.returns
returns c = placed _ c.args.rows.now c.args.client c.row_index.result c.requires c.row_index.ensures
