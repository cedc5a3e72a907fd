use Rattle.sm_core.proofs.KeptSealed.{truth_sealed}
use Rattle.sm_core.proofs.manager.Manager.commit_seal.Goals as goal

pub invariant_of-self : goal.invariant_of-self
invariant_of-self c =
    let b = c.self.inside.ledger.book in
    rw (c.close.ensures.places, c.close.ensures.history)
    (truth_sealed b.places b.history c.self.inside.ring c.self.invariant)
