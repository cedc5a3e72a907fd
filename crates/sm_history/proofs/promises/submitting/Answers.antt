use Rattle.sm_history.proofs.Submitting.{submitted, unseen}
use Rattle.sm_history.proofs.promises.submitting.Goals as goal

pub returns-clause-seen : goal.returns-clause-seen
returns-clause-seen c = λ b after old new event reply sees m s. submitted b after old new event sees reply m s

pub returns-clause-unseen : goal.returns-clause-unseen
returns-clause-unseen c = unseen
