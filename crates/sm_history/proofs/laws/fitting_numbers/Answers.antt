use Rattle.sm_history.proofs.NumbersFit.{numbers_fit}
use Rattle.sm_history.proofs.laws.fitting_numbers.Goals as goal

pub returns : goal.returns
returns c = numbers_fit
