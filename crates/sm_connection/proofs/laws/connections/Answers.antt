use Rattle.sm_connection.proofs.Growing.{admins_see_more}
use Rattle.sm_connection.proofs.laws.connections.Goals as goal

pub returns-clause-admins : goal.returns-clause-admins
returns-clause-admins c = admins_see_more
