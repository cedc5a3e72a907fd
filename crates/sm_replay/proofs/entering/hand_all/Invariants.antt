use Rattle.std.proofs.Common.{◌≡◌, true, drop}
use Rattle.sm_history.specs.Effects.{Effects}
use Rattle.sm_history.specs.Clients.{is_live}
use Rattle.sm_history.specs.Histories.{given_refs, handed_refs}
use Rattle.sm_history.specs.Sound.{Sound}
use Rattle.sm_history.specs.Tables.{TracksTables}
use Rattle.sm_history.specs.Entering.{AllFit}
use Rattle.sm_replay.proofs.EnteringLoops.{RefsLeft}
use Rattle.sm_replay.proofs.entering.hand_all.Given as goal

abbrev pub invariant-loop-i : goal.invariant-loop-i
invariant-loop-i l =
    (d : Effects) → Sound d → TracksTables d l.fn.tables → is_live d l.fn.from ≡ true → is_live d l.fn.to ≡ true
    → l.fn.given ≡ given_refs d l.fn.from l.fn.to l.fn.refs → AllFit (handed_refs d l.fn.from l.fn.to l.fn.refs)
    → RefsLeft d l.fn.from l.fn.to l.fn.refs (drop l.i l.fn.refs) (drop l.i l.fn.given) l.tables
