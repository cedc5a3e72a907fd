use Rattle.sm_history.specs.Histories.{effects_of}
use Rattle.sm_core.proofs.ledger.Ledger.oldest.Goals as goal

pub returns : goal.returns
returns c = rw (← c.self.view_is)
    (c.first.ensures (effects_of c.self.inside.journal.history) c.self.invariant.stands.inboxes)
