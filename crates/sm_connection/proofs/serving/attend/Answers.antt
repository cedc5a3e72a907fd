use Rattle.sm_connection.proofs.Seen.{desk_seen}
use Rattle.sm_connection.specs.Held.{Puts, holding}
use Rattle.sm_connection.proofs.serving.attend.Goals as goal

-- The desk's session, seen by what the connection holds and the sink was given.
pub returns-clause-attends : goal.returns-clause-attends
returns-clause-attends g c =
    let seen = desk_seen (λ d. holding d.held (g.L.AuditSink.given d.sink)) (Puts g.C.Connection.gives) c.args.kind
    c.session-desk.result.1 c.args.bound _ c.new-desk.result _ _ _ _ c.session-desk.result.0
    c.session-desk.ensures.attends in
    let parts = c.into_parts-held.ensures in
    let new = c.new-desk.ensures in
    rw (parts.held, parts.sink, ← new.held, ← new.sink) seen
