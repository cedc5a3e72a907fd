use Rattle.sm_history.proofs.Joining.{joins}
use Rattle.sm_history.proofs.promises.connecting.Goals as goal

pub returns-clause-joins : goal.returns-clause-joins
returns-clause-joins c = joins
