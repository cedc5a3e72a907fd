use Rattle.sm_history.proofs.NumbersFit.{sealed_lawful, sealed_fits}
use Rattle.sm_history.proofs.laws.sealing.Goals as goal

pub returns-clause-lawful : goal.returns-clause-lawful
returns-clause-lawful c = sealed_lawful

pub returns-clause-fits : goal.returns-clause-fits
returns-clause-fits c = λ places h l fits. sealed_fits places h fits
