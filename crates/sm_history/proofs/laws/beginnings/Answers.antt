use Rattle.sm_history.proofs.Beginnings.{begins_before, begins_sealed, begins_through}
use Rattle.sm_history.proofs.laws.beginnings.Goals as goal

pub returns-clause-before : goal.returns-clause-before
returns-clause-before c = begins_before

pub returns-clause-after_seal : goal.returns-clause-after_seal
returns-clause-after_seal c = begins_sealed

pub returns-clause-through : goal.returns-clause-through
returns-clause-through c = begins_through
