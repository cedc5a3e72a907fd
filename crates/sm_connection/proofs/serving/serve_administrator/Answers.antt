use Rattle.sm_connection.proofs.Growing.{admin_session}
use Rattle.sm_connection.proofs.serving.serve_administrator.Goals as goal

pub returns-clause-goes_on : goal.returns-clause-goes_on
returns-clause-goes_on g c =
    admin_session c.attend.result.2 c.args.bound _ _ _ _ _ _ _ c.attend.ensures.attends
