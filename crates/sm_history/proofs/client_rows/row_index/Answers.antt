use Rattle.sm_history.proofs.ClientRows.{found}
use Rattle.sm_history.proofs.client_rows.row_index.Goals as goal

pub returns : goal.returns
returns g c = found _ c.args.rows.now c.args.client c.first_of.result c.first_of.ensures
