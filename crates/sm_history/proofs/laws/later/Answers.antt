use Rattle.sm_history.proofs.Beginnings.{longer}
use Rattle.sm_history.proofs.Later.{later, later_lawful}
use Rattle.sm_history.proofs.laws.later.Goals as goal

pub returns-clause-lawful : goal.returns-clause-lawful
returns-clause-lawful c = later_lawful

pub returns-clause-more : goal.returns-clause-more
returns-clause-more c = later

pub returns-clause-longer : goal.returns-clause-longer
returns-clause-longer c = longer
