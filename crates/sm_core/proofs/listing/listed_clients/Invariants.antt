use Rattle.std.proofs.Common.{take}
use Rattle.sm_history.specs.Effects.{Effects}
use Rattle.sm_grants.specs.Rows.{Tracks}
use Rattle.sm_inbox.specs.Tracking.{TracksInboxes}
use Rattle.sm_core.specs.Listed.{AreListed}
use Rattle.sm_core.proofs.listing.listed_clients.Given as goal

-- Those that were gone through are listed.
abbrev pub invariant-loop-row : goal.invariant-loop-row
invariant-loop-row l = (d : Effects) → Tracks d l.fn.grants → TracksInboxes d l.fn.inboxes
    → AreListed d (take l.row-index l.fn.rows) l.list.items
