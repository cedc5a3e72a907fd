use Rattle.sm_connection.proofs.Growing.{client_session}
use Rattle.sm_connection.proofs.serving.serve_client.Goals as goal

pub returns-clause-goes_on : goal.returns-clause-goes_on
returns-clause-goes_on g c =
    let held = c.slot_of-held.ensures in
    rw (← held) (client_session c.attend.result.2 c.args.bound _ _ _ _ _ _ _ c.attend.ensures.attends)
