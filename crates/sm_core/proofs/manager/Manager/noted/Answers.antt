use Rattle.std.proofs.Common.{sym, ◌∙◌}
use Rattle.sm_core.proofs.Keeping.{truth_refused}
use Rattle.sm_core.proofs.manager.Manager.noted.Goals as goal

pub invariant_of-self : goal.invariant_of-self
invariant_of-self c =
    let b = c.self.inside.ledger.book in
    truth_refused b.places b.history c.self.inside.ring c.self.inside.draft.records.items c.push_all.new.self
    c.args.reply c.self.invariant (rw (← c.self.view_is) at c.requires.noted)
    (sym c.is_memory.ensures ∙ c.if-is_memory.false) c.push_all.ensures.ring
