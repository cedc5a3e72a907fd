use Rattle.std.proofs.Common.{◌≡◌, refl, length}
use Rattle.sm_history.specs.Histories.{effects_of}
use Rattle.sm_history.specs.Holdings.{held_nodes}
use Rattle.sm_history.specs.Inboxes.{inbox_at}
use Rattle.sm_core.proofs.ledger.Ledger.client_status.Goals as goal

pub returns : goal.returns
returns c =
    let k = c.self.invariant in
    let d = effects_of c.self.inside.journal.history in
    let handles : c.held.result ≡ length (held_nodes (effects_of c.args.self.now.book.history) c.args.row.now.id) =
    rw (← c.self.view_is) (c.held.ensures d k.stands.grants) in
    let deliveries : c.waiting.result ≡ length (inbox_at (effects_of c.args.self.now.book.history) c.args.row.now.id) =
    rw (← c.self.view_is) (c.waiting.ensures.tracks d k.stands.inboxes) in
    rw (c.in_ok-clone.ensures.cases, c.turn.ensures, handles, deliveries) refl
