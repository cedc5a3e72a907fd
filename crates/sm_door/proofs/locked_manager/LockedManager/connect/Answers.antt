use Rattle.std.proofs.Common.{rules, ◌≡◌, ◌∙◌, ℕ, ap, subst, sym}
use Rattle.sm_history.specs.declared.by.By.TheVariants.{Manager}
use Rattle.sm_history.specs.declared.event.Event.TheVariants.{Connect}
use Rattle.sm_history.specs.declared.outcome.Outcome.TheVariants.{Connected}
use Rattle.sm_history.specs.declared.reply.Reply.TheVariants.{Done, Refused}
use Rattle.sm_history.specs.Histories.{client_of}
use Rattle.sm_history.specs.Promises.{Joined}
use Rattle.sm_history.specs.Steps.{Steps}
use Rattle.sm_history.specs.Tokens.{Knows, Sees, token}
use Rattle.sm_history.proofs.Joining.{connect_answered, sees_alike, joins, turns_away}
use Rattle.sm_door.proofs.Places.{connects}
use Rattle.sm_door.proofs.locked_manager.LockedManager.connect.Goals as goal

pub connected-requires : goal.connected-requires
connected-requires g c =
    connect_answered c.args.self.now.book c.step-reply.new.self.book c.args.who c.turn-due.result
    c.step-reply.result.0 c.turn-due.ensures.turn c.step-reply.ensures.answers

pub returns-in-Ok-clause-steps : goal.returns-in-Ok-clause-steps
returns-in-Ok-clause-steps g c =
    let is : c.step-reply.result.0 ≡ Done (Connected c.in-Ok.client) = search rules in
    let by = ap (λ (k : Knows). client_of k.by) c.into_session.ensures in
    connects c.args.self.now c.step-reply.new.self c.args.who c.turn-due.result _ c.step-reply.result.0
    c.turn-due.ensures.turn (is ∙ ap (λ (n : ℕ). Done (Connected (record { 0 = n }))) (sym by))
    c.step-reply.ensures.answers c.step-reply.ensures.ring

pub returns-in-Ok-clause-joined : goal.returns-in-Ok-clause-joined
returns-in-Ok-clause-joined g c =
    let b = c.args.self.now.book in
    let after = c.step-reply.new.self.book in
    let between = c.see.new.self in
    let new = c.see-in-Ok.new.self in
    let is : c.step-reply.result.0 ≡ Done (Connected c.in-Ok.client) = search rules in
    let s = subst (λ r. Steps b Manager c.turn-due.result (Connect c.args.who) r after) is
    c.step-reply.ensures.answers in
    let first = subst (λ (k : Knows). Sees k b (token Manager between.seen between.reads)) c.seat.view_is
    (sees_alike c.seat.inside.actor between b Manager c.see.ensures) in
    let then = sees_alike between new after Manager c.see-in-Ok.ensures in
    subst (λ (k : Knows). Joined c.args.seat k c.args.who) (sym c.into_session.ensures)
    (joins b after c.args.seat (token Manager between.seen between.reads) (token Manager new.seen new.reads)
    c.args.who c.turn-due.result c.in-Ok.client c.turn-due.ensures.turn s first then)

pub returns-clause-steps : goal.returns-clause-steps
returns-clause-steps g c =
    connects c.args.self.now c.step-reply.new.self c.args.who c.turn-due.result (Refused c.in-Err.refusal)
    c.step-reply.result.0 c.turn-due.ensures.turn c.in-Err.ensures.0 c.step-reply.ensures.answers
    c.step-reply.ensures.ring

pub returns-clause-joined : goal.returns-clause-joined
returns-clause-joined g c =
    let b = c.args.self.now.book in
    let new = c.see.new.self in
    let s = subst (λ r. Steps b Manager c.turn-due.result (Connect c.args.who) r c.step-reply.new.self.book)
    c.in-Err.ensures.0 c.step-reply.ensures.answers in
    let first = subst (λ (k : Knows). Sees k b (token Manager new.seen new.reads)) c.seat.view_is
    (sees_alike c.seat.inside.actor new b Manager c.see.ensures) in (
      c.in-Err.ensures.1,
      turns_away b c.step-reply.new.self.book c.args.seat (token Manager new.seen new.reads)
          c.args.who c.turn-due.result c.in-Err.refusal c.turn-due.ensures.turn s first,
    )
