use Rattle.std.proofs.Common.{◌∙◌, ap, sym}
use Rattle.sm_history.specs.Tokens.{Knows}
use Rattle.sm_door.proofs.seat_or_session.SeatOrSession.of_session.Goals as goal

pub invariant_of-result : goal.invariant_of-result
invariant_of-result g c =
    (c.session.inside.client, ap (λ (k : Knows). k.by) (sym c.session.view_is) ∙ c.session.invariant)
