use Rattle.std.proofs.Common.{refl, sym, inr, [], ◌∙◌}
use Rattle.sm_wire.specs.declared.item.Item.TheVariants.{Asked, Policy}
use Rattle.sm_wire.specs.declared.telling.Telling.TheVariants.{Whole}
use Rattle.sm_wire.specs.Replies.{told_in}
use Rattle.sm_engine.proofs.Results.{on_err}
use Rattle.sm_connection.specs.Desks.{DeskAnswers}
use Rattle.sm_connection.proofs.SessionLemmas.{taken, written}
use Rattle.sm_connection.proofs.gated_session.GatedSessionMachine.answer.Goals as goal

pub returns-in-Asked : goal.returns-in-Asked
returns-in-Asked g c =
    let answers = DeskAnswers g.D.Desk.answers in
    let old = c.self.inside.session_state in
    let step = taken answers old (Asked c.in-Asked.request) c.ask-response.result _ (told_in c.telling-telling.result)
    (rw c.in-Asked.is at (sym c.will_ask.ensures ∙ c.if-not-will_ask.false)) c.telling-telling.ensures
    c.ask-response.ensures.asks in
    rw (← c.self.view_is, c.in-Asked.is) (record {
      ok = written answers old _ _ c.push_response.result _ _ _ _ step c.push_response.ensures;
      err = on_err c.push_response.result (inr (_, [], step));
    })

pub returns-in-Policy : goal.returns-in-Policy
returns-in-Policy g c =
    let answers = DeskAnswers g.D.Desk.answers in
    let old = c.self.inside.session_state in
    let step = taken answers old (Policy c.in-Policy.texts) c.reload-response.result _ (told_in Whole)
    (rw c.in-Policy.is at (sym c.will_ask.ensures ∙ c.if-not-will_ask.false)) (λ r. refl)
    c.reload-response.ensures.asks in
    rw (← c.self.view_is, c.in-Policy.is) (record {
      ok = written answers old _ _ c.push_response-in-Policy.result _ _ _ _ step c.push_response-in-Policy.ensures;
      err = on_err c.push_response-in-Policy.result (inr (_, [], step));
    })
