use Rattle.std.proofs.Common.{◌≡◌, List, drop}
use Rattle.sm_history.specs.Effects.{Effects}
use Rattle.sm_history.specs.declared.effect.Watch.{Watch}
use Rattle.sm_history.specs.Notices.{notices_at, after_notices}
use Rattle.sm_history.specs.Sound.{Sound}
use Rattle.sm_history.specs.Tables.{TracksTables}
use Rattle.sm_history.specs.Entering.{AllFit}
use Rattle.sm_history.proofs.AgreeNotices.{AllLive}
use Rattle.sm_replay.proofs.EnteringLoops.{TellsLeft}
use Rattle.sm_replay.proofs.entering.tell_all.Given as goal

abbrev pub invariant-loop-notice : goal.invariant-loop-notice
invariant-loop-notice l =
    (d : Effects) (ws : List Watch) → Sound d → TracksTables d l.fn.tables → AllLive d ws
    → l.fn.notices ≡ notices_at d l.fn.node ws → AllFit (after_notices d l.fn.node ws)
    → TellsLeft d l.fn.node ws (drop l.notice-index l.fn.notices) l.tables
