use Rattle.std.proofs.Common.{◌≡◌, ◌∙◌, subst, sym}
use Rattle.sm_history.specs.Books.{Book}
use Rattle.sm_core.specs.Managed.{ring_after, step_leaves}
use Rattle.sm_history.specs.Steps.{Steps}
use Rattle.sm_door.specs.Locked.{Locked}
use Rattle.sm_door.proofs.Places.{same_book, steps_done, steps_refused, ring_done, leaves_done}
use Rattle.sm_door.proofs.locked_manager.LockedManager.step.Goals as goal

pub returns-in-Err-clause-answers : goal.returns-in-Err-clause-answers
returns-in-Err-clause-answers g c =
    subst (λ (l : Locked).
    Steps l.book c.args.by c.args.turn c.args.event c.in-Err.refused.0 c.ready.new.self.book)
    c.self.view_is (steps_refused _ _ _ _ _ _ c.ready.ensures.same c.in-Err.ensures.refused)

pub returns-in-Err-clause-ring : goal.returns-in-Err-clause-ring
returns-in-Err-clause-ring g c =
    subst
    (λ (l : Locked). c.ready.new.self.ring
    ≡ ring_after l.ring l.book c.args.by c.args.turn c.args.event c.in-Err.refused.0)
    c.self.view_is c.in-Err.ensures.recorded

pub returns-in-Err-clause-records : goal.returns-in-Err-clause-records
returns-in-Err-clause-records g c =
    subst
    (λ (l : Locked). c.in-Err.refused.1.items
    ≡ step_leaves l.book c.args.by c.args.turn c.args.event c.in-Err.refused.0)
    c.self.view_is c.in-Err.ensures.leaves

pub show_ready-requires-clause-shown : goal.show_ready-requires-clause-shown
show_ready-requires-clause-shown g c =
    c.self.invariant ∙ sym (same_book _ _ c.ready.ensures.same)

pub returns-in-Ok-show_ready-clause-answers : goal.returns-in-Ok-show_ready-clause-answers
returns-in-Ok-show_ready-clause-answers g c =
    let r = c.in-Ok.ensures.ready in
    subst (λ (l : Locked). Steps l.book c.args.by c.args.turn c.args.event c.commit.result.0 c.commit.new.self.book)
    c.self.view_is
    (subst (λ (b : Book). Steps b c.args.by c.args.turn c.args.event c.commit.result.0 c.commit.new.self.book)
    (same_book _ _ c.ready.ensures.same)
    (steps_done _ _ c.in-Ok.ready.entry _ _ _ _ r.0.change.done r.1 r.2 r.3 c.commit.ensures.reply c.commit.ensures.places
    c.commit.ensures.history))

pub returns-in-Ok-show_ready-clause-ring : goal.returns-in-Ok-show_ready-clause-ring
returns-in-Ok-show_ready-clause-ring g c =
    subst
    (λ (l : Locked). c.commit.new.self.ring
    ≡ ring_after l.ring l.book c.args.by c.args.turn c.args.event c.commit.result.0)
    c.self.view_is
    (ring_done _ _ _ c.self.inside.manager.book c.args.by c.args.turn c.args.event _ _ _ c.commit.ensures.reply
    c.in-Ok.ensures.kept c.in-Ok.ensures.noted c.commit.ensures.ring)

pub returns-in-Ok-show_ready-clause-records : goal.returns-in-Ok-show_ready-clause-records
returns-in-Ok-show_ready-clause-records g c =
    subst
    (λ (l : Locked). c.commit.result.1.items ≡ step_leaves l.book c.args.by c.args.turn c.args.event c.commit.result.0)
    c.self.view_is
    (leaves_done c.self.inside.manager.book c.args.by c.args.turn c.args.event _ _ _ c.commit.ensures.reply
    (c.commit.ensures.records ∙ c.in-Ok.ensures.noted))
