use Rattle.std.proofs.Common.{◌≡◌, subst, sym, ◌∙◌}
use Rattle.sm_history.specs.Records.{records}
use Rattle.sm_core.specs.Managed.{Managed}
use Rattle.sm_core.proofs.Keeping.{done_records}
use Rattle.sm_core.proofs.Looking.{event_left}
use Rattle.sm_core.proofs.manager.Manager.step_records.Goals as goal

pub returns-in-Ok : goal.returns-in-Ok
returns-in-Ok c =
    let b = c.self.inside.ledger.book in
    subst (λ (m : Managed). c.append.new.self.items
    ≡ records m.book.places m.book.history c.args.by c.args.turn c.args.event.now)
    c.self.view_is
    (c.in_ok-append-in-Ok.ensures.items
    ∙ done_records b.places b.history c.args.by c.args.turn c.args.event.now c.judge.new.draft.records.items
    c.judge.new.draft.told.items (rw c.new-draft.ensures.records at c.in-Ok.ensures.judged.0)
    c.in-Ok.ensures.judged.1.told)

pub returns : goal.returns
returns c =
    let b = c.self.inside.ledger.book in
    subst (λ (m : Managed). c.judge.new.draft.records.items
    ≡ records m.book.places m.book.history c.args.by c.args.turn c.args.event.now)
    c.self.view_is
    (event_left b.places b.history c.args.by c.args.turn c.args.event.now c.judge.new.draft.records.items
    c.in-Err.reply (rw c.new-draft.ensures.records at c.in-Err.ensures.judged)
    (sym c.is_memory.ensures ∙ c.if-is_memory.false))
