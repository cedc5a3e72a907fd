use Rattle.sm_history.specs.Histories.{effects_of}
use Rattle.sm_core.proofs.Keeping.{kept_room}
use Rattle.sm_core.proofs.ledger.Ledger.reserve.Goals as goal

pub invariant_of-self-in_err-reserve-2 : goal.invariant_of-self-in_err-reserve-2
invariant_of-self-in_err-reserve-2 c =
    kept_room _ _ _ _ _ _ _ c.self.invariant c.reserve.ensures.same c.reserve-2.ensures.same c.reserve-2.ensures.admins
    c.self.invariant.stands

pub invariant_of-self-2 : goal.invariant_of-self-2
invariant_of-self-2 c =
    kept_room _ _ _ _ _ _ _ c.self.invariant c.reserve.ensures.same c.reserve-2.ensures.same
    c.reserve-2.ensures.admins
    (c.reserve-3.ensures.stands (effects_of c.self.inside.journal.history) c.self.invariant.stands)
