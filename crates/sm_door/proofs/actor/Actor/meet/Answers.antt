use Rattle.std.proofs.Common.{◌∙◌, sym}
use Rattle.std.specs.Prelude.{nat_eq}
use Rattle.sm_history.specs.Histories.{turn_of}
use Rattle.sm_history.specs.Tokens.{turn}
use Rattle.sm_door.proofs.actor.Actor.meet.Goals as goal

pub returns-clause-turn : goal.returns-clause-turn
returns-clause-turn g c =
    let sees = c.see.ensures in
    c.is_in_turn-is_known.ensures
    ∙ λ i. nat_eq (turn_of ((sym sees.is) i).history ((sym sees.grows.by) i)) (turn c.args.self.now)
