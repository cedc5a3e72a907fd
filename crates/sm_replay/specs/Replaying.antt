-- Replays: the rows that a history leaves, computed entry by entry.
use Rattle.std.specs.Prelude.{ℕ, ◌+◌, ◌⊎◌, ◌≡◌, ◌<◌, min, List, [], ◌∷◌, Option, Some, None}
use Rattle.sm_values.specs.declared.number.Node.{Node}
use Rattle.sm_history.specs.declared.limits.TheConstants.{GREATEST}
use Rattle.sm_history.specs.declared.by.By.{By}
use Rattle.sm_history.specs.declared.entry.Entry.{Entry}
use Rattle.sm_history.specs.declared.held.Held.{Held}
use Rattle.sm_history.specs.declared.client_row.ClientRow.{ClientRow}
use Rattle.sm_history.specs.Effects.{Effects}
use Rattle.sm_history.specs.Rows.{rows_at}
use Rattle.sm_history.specs.Sound.{Sound}
use Rattle.sm_history.specs.Lawful.{AreLawful}
use Rattle.sm_history.specs.Openings.{Opening, blank_opening, turns_in}
use Rattle.sm_history.specs.Histories.{History, effects_of, length_of, turn_of, client_of}
use Rattle.sm_history.specs.Segments.{admins_of}
use Rattle.sm_history.specs.Tables.{TracksTables}
use Rattle.sm_history.specs.Entering.{IsDone}
use Rattle.sm_replay.specs.declared.replaying.Replay.{Replay}
use Rattle.sm_replay.specs.Turning.{CountsTurns, admins_in}

-- A replay has reached the end of a history.
pub record TracksHistory (h : History) (r : Replay) : Type 0 where
  pub tables : TracksTables (effects_of h) r.tables
  pub turning : CountsTurns (turn_of h) (admins_of h) r.turning
  pub length : r.length ≡ length_of h

-- A change may come next in a history, and its numbers fit.
pub record IsNext (h : History) (e : Entry) : Type 0 where
  pub done : IsDone (effects_of h) (client_of e.by) e.event e.outcome
  pub turns : (by : By) → turn_of h by < GREATEST
  pub length : length_of h < GREATEST

-- This is a first segment without entries.
abbrev pub start : ℕ → History
start number = record { number = number; opening = blank_opening; entries = [] }

-- A replay starts from an opening.
pub record StartsFrom (o : Opening) (r : Replay) : Type 0 where
  pub turning : CountsTurns (turns_in o.turns) (admins_in o.turns) r.turning
  pub length : r.length ≡ o.length
  pub tables : (d : Effects) → Sound d → o.tables ≡ rows_at d → TracksTables d r.tables

-- A replay has reached the end of entries, newest first: of no entries of a first segment, or of lawful ones.
abbrev pub HasCome : ℕ → ℕ → Opening → List Entry → Replay → Type 0
HasCome places number o es r =
    (((o ≡ blank_opening) × (es ≡ [])) ⊎ AreLawful places number o es)
    × TracksHistory (record { number = number; opening = o; entries = es }) r

-- ---- the rows of clients

-- A slot changes so by one more grant of an object. A count that is the greatest number stays.
abbrev pub given_slot : Node → Option Held → Option Held
given_slot n None = Some (record { node = n; count = 1 })
given_slot n (Some h) = Some (record { node = h.node; count = min (h.count + 1) GREATEST })

-- Two lists of clients' rows are equal, row by row.
abbrev pub AreSameRows : List ClientRow → List ClientRow → Type 0
AreSameRows [] [] = Unit {0}
AreSameRows [] (y ∷ ys) = ⊥
AreSameRows (x ∷ xs) [] = ⊥
AreSameRows (x ∷ xs) (y ∷ ys) = (y.client ≡ x.client) × (y.who ≡ x.who) × (y.held.items ≡ x.held.items)
    × (y.waiting.items ≡ x.waiting.items) × AreSameRows xs ys
