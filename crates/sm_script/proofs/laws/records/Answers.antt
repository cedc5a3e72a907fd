use Rattle.sm_script.proofs.RecordLemmas.{runs_again, scripts_repeat}
use Rattle.sm_script.proofs.laws.records.Goals as goal

pub returns-clause-items : goal.returns-clause-items
returns-clause-items c = runs_again

pub returns-clause-scripts : goal.returns-clause-scripts
returns-clause-scripts c = scripts_repeat
