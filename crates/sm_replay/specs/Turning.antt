-- Counts of each actor's changes during a replay.
use Rattle.std.specs.Prelude.{ℕ, ◌≡◌, Bool, true, false, ◌==◌, ◌+◌, min, List, [], ◌∷◌, ◌++◌, map, filter, is_some}
use Rattle.std.specs.Prelude.{unwrap_or, if◌then◌else◌}
use Rattle.std.specs.List.{list_any}
use Rattle.std.specs.HashMap.{get}
use Rattle.sm_history.specs.declared.limits.TheConstants.{GREATEST}
use Rattle.sm_history.specs.declared.by.By.{By, TheVariants.Manager, TheVariants.Client, TheVariants.Admin}
use Rattle.sm_history.specs.declared.client_row.ClientRow.{ClientRow}
use Rattle.sm_replay.specs.declared.turning.Turning.{Turning}
use Rattle.sm_history.specs.declared.turn.TurnRow.{TurnRow}
use Rattle.sm_history.specs.Openings.{is_same}
use Rattle.sm_history.specs.Segments.{admin, is_admin, client}

-- This is the number of changes of an actor.
abbrev pub made : Turning → By → ℕ
made t Manager = t.manager
made t (Client c) = unwrap_or (get (◌==◌) t.clients c.0) 0
made t (Admin a) = unwrap_or (get (◌==◌) t.admins a.0) 0

-- An administrator has made a change. True of any other actor.
abbrev pub has_made : Turning → By → Bool
has_made t (Admin a) = is_some (get (◌==◌) t.admins a.0)
has_made t by = true

-- Administrator a has made a change.
abbrev pub is_known : Turning → ℕ → Bool
is_known t a = is_some (get (◌==◌) t.admins a)

-- An administrator that had made no change is appended.
abbrev pub with_order : By → Bool → List ℕ → List ℕ
with_order (Admin a) false order = order ++ a.0 ∷ []
with_order by known order = order

-- A count goes up if the actor is the same, and stays at the greatest number.
abbrev pub more_by : Bool → ℕ → ℕ
more_by same n = if same then min (n + 1) GREATEST else n

-- These are the rows of all actors that may still make a change: the manager, the live clients, the administrators.
abbrev pub turn_rows : Turning → List ClientRow → List TurnRow
turn_rows t live = record { by = Manager; turns = t.manager }
    ∷ (map (λ r. record { by = client r.client; turns = made t (client r.client) }) live
    ++ map (λ a. record { by = admin a; turns = made t (admin a) }) t.order.items)

-- These are the administrators of rows.
abbrev pub admins_in : List TurnRow → List By
admins_in rows = filter is_admin (map (λ r. r.by) rows)

-- The counts are the turns of the actors, and the administrators are in order.
pub record CountsTurns (turns : By → ℕ) (admins : List By) (t : Turning) : Type 0 where
  pub made_is : (by : By) → made t by ≡ turns by
  pub order : map admin t.order.items ≡ admins
  pub known : (a : ℕ) → is_known t a ≡ list_any (is_same (admin a)) admins
