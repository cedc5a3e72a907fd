use Rattle.std.proofs.Common.{◌≡◌, [], ap, sym, subst, ◌∙◌}
use Rattle.std.specs.Global.{Vec}
use Rattle.sm_history.specs.declared.effect.Effect.{Effect}
use Rattle.sm_history.specs.Records.{records}
use Rattle.sm_core.specs.Managed.{IsAnswer, Managed, ledger_in, ring_after, step_leaves}
use Rattle.sm_core.proofs.Keeping.{done_records, done_verdict, may_change, ready_true}
use Rattle.sm_core.proofs.Keeping.{refused_leaves, refused_ring, stop_answers, stop_true}
use Rattle.sm_core.proofs.manager.Manager.prepare.Goals as goal

pub refuse-requires-clause-noted : goal.refuse-requires-clause-noted
refuse-requires-clause-noted c =
    let b = c.self.inside.ledger.book in
    stop_true b.places b.history c.args.by c.args.turn c.args.event.now c.judge.new.draft.records.items c.in-Err.reply
    c.judge.ensures.lawful (rw c.clear.ensures.records at c.in-Err.ensures.judged)

pub returns-in-Err-clause-refused : goal.returns-in-Err-clause-refused
returns-in-Err-clause-refused c =
    let b = c.self.inside.ledger.book in
    subst (λ (m : Managed). IsAnswer m.book.places m.book.history c.args.by c.args.turn c.args.event.now
    c.refuse.result)
    c.self.view_is
    (stop_answers b.places b.history c.args.by c.args.turn c.args.event.now c.judge.new.draft.records.items
    c.in-Err.reply c.refuse.result (rw c.clear.ensures.records at c.in-Err.ensures.judged) c.refuse.ensures.answer)

pub returns-in-Err-clause-recorded : goal.returns-in-Err-clause-recorded
returns-in-Err-clause-recorded c =
    subst (λ (m : Managed). c.refuse.new.self.ring
    ≡ ring_after m.ring m.book c.args.by c.args.turn c.args.event.now c.refuse.result)
    c.self.view_is
    (refused_ring c.self.inside.ring c.self.inside.ledger.book c.args.by c.args.turn c.args.event.now c.in-Err.reply
    c.judge.new.draft.records.items c.refuse.new.self.ring c.refuse.result
    (rw c.clear.ensures.records at c.in-Err.ensures.judged) c.refuse.ensures.answer c.refuse.ensures.ring)

pub returns-in-Err-clause-leaves : goal.returns-in-Err-clause-leaves
returns-in-Err-clause-leaves c =
    subst (λ (m : Managed). c.refuse.new.copies.items
    ≡ step_leaves m.book c.args.by c.args.turn c.args.event.now c.refuse.result)
    c.self.view_is
    (refused_leaves c.self.inside.ledger.book c.args.by c.args.turn c.args.event.now c.in-Err.reply
    c.judge.new.draft.records.items c.refuse.new.copies.items c.refuse.result
    (rw c.clear.ensures.records at c.in-Err.ensures.judged) c.refuse.ensures.answer c.refuse.ensures.records)

pub returns-clause-ready : goal.returns-clause-ready
returns-clause-ready c =
    let b = c.self.inside.ledger.book in
    let new = c.make_room.new.self in
    let it = c.in-Ok-make_room.ensures in
    let pass = rw c.clear.ensures.records at c.in-Ok.ensures.judged.0 in
    let drafted = c.in-Ok.ensures.judged.1 in
    let rs = c.judge.new.draft.records.items in record {
      change = may_change b (ledger_in new) c.args.by c.args.turn c.args.event.now c.judge.new.draft c.in-Ok.outcome
          new.draft.effects.items it.same
          (done_verdict b.places b.history c.args.by c.args.turn c.args.event.now [] rs c.in-Ok.outcome pass
          drafted.outcome)
          drafted (ap (λ (v : Vec Effect). v.items) it.effects) it.entries it.turns it.room;
      records = sym it.copied;
      noted = ready_true b new.book c.args.by c.args.turn c.args.event.now c.make_room.new.copies.items
          c.judge.ensures.lawful it.same
          (it.copied ∙ it.joined
          ∙ done_records b.places b.history c.args.by c.args.turn c.args.event.now rs c.judge.new.draft.told.items pass
          drafted.told);
    }

pub returns-clause-noted : goal.returns-clause-noted
returns-clause-noted c =
    let b = c.self.inside.ledger.book in
    let it = c.in-Ok-make_room.ensures in
    subst (λ (m : Managed). c.make_room.new.copies.items
    ≡ records m.book.places m.book.history c.args.by c.args.turn c.args.event.now)
    c.self.view_is
    (it.copied ∙ it.joined
    ∙ done_records b.places b.history c.args.by c.args.turn c.args.event.now c.judge.new.draft.records.items
    c.judge.new.draft.told.items (rw c.clear.ensures.records at c.in-Ok.ensures.judged.0)
    c.in-Ok.ensures.judged.1.told)
