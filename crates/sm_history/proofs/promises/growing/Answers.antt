use Rattle.sm_history.proofs.TokensGrow.{token_goes_on}
use Rattle.sm_history.proofs.promises.growing.Goals as goal

pub returns : goal.returns
returns c = token_goes_on
