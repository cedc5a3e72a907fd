use Rattle.sm_history.proofs.SealedTokens.{closes}
use Rattle.sm_history.proofs.promises.sealing.Goals as goal

pub returns-clause-closed : goal.returns-clause-closed
returns-clause-closed c = closes
