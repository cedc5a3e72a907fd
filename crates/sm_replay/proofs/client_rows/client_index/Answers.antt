use Rattle.sm_history.proofs.ClientRows.{by_position}
use Rattle.sm_replay.proofs.client_rows.client_index.Goals as goal

pub returns : goal.returns
returns c = by_position _ c.args.rows.now c.args.client c.first_of.result c.first_of.ensures
