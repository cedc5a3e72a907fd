use Rattle.std.proofs.Common.{sym, ◌∙◌}
use Rattle.sm_history.specs.Holdings.{resolve_at}
use Rattle.sm_replay.proofs.EnteringLoops.{hand_step}
use Rattle.sm_replay.proofs.entering.hand_one.Goals as goal

pub returns : goal.returns
returns c d s tr from to is fits =
    hand_step d c.args.to (resolve_at d c.args.from c.args.obj) c.in-Some-resolve.node c.args.given c.in-Some.given
    c.hand.new.tables (sym (c.resolve.ensures d tr from) ∙ c.in-Some-resolve.is) c.in-Some.is is fits
    (c.in_ok-hand.ensures d s tr to)
