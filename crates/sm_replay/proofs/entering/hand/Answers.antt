use Rattle.std.proofs.Common.{sym, subst, ◌∙◌}
use Rattle.sm_history.specs.Effects.{Effects}
use Rattle.sm_history.specs.Tables.{TracksTables}
use Rattle.sm_replay.proofs.EnteringSteps.{hand_given}
use Rattle.sm_replay.proofs.entering.hand.Goals as goal

pub returns-in_ok-give : goal.returns-in_ok-give
returns-in_ok-give c d s tr live is fits =
    let f = hand_given d c.args.client c.args.node c.in-Handle.number s live (sym c.in-Handle.is ∙ is) fits in
    subst (λ (e : Effects). TracksTables e c.give.new.tables) (sym f.1) (c.in_ok-give.ensures d s tr f.0)
