use Rattle.sm_core.proofs.Keeping.{truth_committed}
use Rattle.sm_core.proofs.manager.Manager.make.Goals as goal

pub invariant_of-self : goal.invariant_of-self
invariant_of-self c =
    let b = c.self.inside.ledger.book in
    let r = rw (← c.self.view_is) at c.requires.change in
    let noted = rw (← c.self.view_is) at c.requires.noted in
    rw (c.change.ensures.places, c.change.ensures.history)
    (truth_committed b.places b.history c.args.entry c.self.inside.ring c.push_all.new.self
    c.self.inside.draft.records.items r.done r.sound c.self.invariant noted c.push_all.ensures.ring)
