use Rattle.std.proofs.Common.{ap, ◌∙◌}
use Rattle.sm_history.specs.Entering.{given_of}
use Rattle.sm_replay.proofs.EnteringSteps.{tell_step}
use Rattle.sm_replay.proofs.entering.tell.Goals as goal

pub returns-in_ok-deliver : goal.returns-in_ok-deliver
returns-in_ok-deliver c d w s tr live is fits =
    tell_step d w c.args.node c.args.notice.now c.in-Told.delivery c.in_ok-clone.field-0 c.given_in.result
    c.args.tables.now c.hand.new.tables c.deliver.new.tables s tr live is fits c.in-Told.is
    (c.given_in.ensures ∙ ap given_of c.get.ensures) c.in_ok-clone.ensures.cases c.in_ok-hand.ensures
    c.in_ok-deliver.ensures
