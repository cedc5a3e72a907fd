use Rattle.sm_history.proofs.TrueRecords.{query_records_true}
use Rattle.sm_history.proofs.LaterRecords.{records_true, stays_true}
use Rattle.sm_history.proofs.laws.true_records.Goals as goal

pub returns-clause-events : goal.returns-clause-events
returns-clause-events c = records_true

pub returns-clause-queries : goal.returns-clause-queries
returns-clause-queries c = query_records_true

pub returns-clause-later : goal.returns-clause-later
returns-clause-later c = stays_true
