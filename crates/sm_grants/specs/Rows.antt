-- The handles of all clients.
use Rattle.std.specs.Prelude.{ℕ, ◌-◌, ◌≡◌, ◌<◌, ◌^◌, ◌==◌, List, [], ◌∷◌, Option, Some, None, if◌then◌else◌, map}
use Rattle.sm_values.specs.declared.number.Node.{Node}
use Rattle.sm_history.specs.Effects.{Effects}
use Rattle.sm_history.specs.Sound.{IsBalanced, IsOnce}
use Rattle.sm_history.specs.Clients.{live_clients}
use Rattle.sm_history.specs.declared.limits.TheConstants.{MOST_HANDLES}
use Rattle.sm_grants.specs.declared.rows.ClientHandles.{ClientHandles}
use Rattle.sm_grants.specs.declared.grants.Grants.{Grants}
use Rattle.sm_history.specs.Tables.{Slots, slot}
use Rattle.sm_grants.specs.Slots.{node_of, count_of, held_in, IsAbsent, HandleTable}
use Rattle.sm_grants.specs.Tracking.{TracksSlots}

-- These are the handles in the first row of a client.
abbrev pub table_of : List ClientHandles → ℕ → Option HandleTable
table_of [] c = None
table_of (r ∷ rs) c = if r.client == c then Some r.handles else table_of rs c

-- These are the slots of handles, if there are any.
abbrev pub slots_in : Option HandleTable → Slots
slots_in None = []
slots_in (Some t) = t.slots

-- This is the number of new objects for which handles have room, if there are any.
abbrev pub spare_in : Option HandleTable → ℕ
spare_in None = 0
spare_in (Some t) = t.spare

-- These are the slots of a client.
abbrev pub slots_of : List ClientHandles → ℕ → Slots
slots_of rows c = slots_in (table_of rows c)

-- A client's handles have room for this many new objects without an allocation.
abbrev pub spare_of : List ClientHandles → ℕ → ℕ
spare_of rows c = spare_in (table_of rows c)

-- The rows have what the clients hold.
pub record TracksRows (d : Effects) (rows : List ClientHandles) : Type 0 where
  pub balanced : IsBalanced d
  pub live : IsOnce (live_clients d)
  pub slots : (c : ℕ) → TracksSlots d c (slots_of rows c)
  pub once : IsOnce (map (λ r. r.client) rows)

-- A grant allocates nothing: there is room for a new object, and the count of a held one can go up.
pub record CanGrantRow (rows : List ClientHandles) (c : ℕ) (n : Node) : Type 0 where
  pub placed : IsAbsent (slots_of rows c) n → (held_in (slots_of rows c) < MOST_HANDLES) × (0 < spare_of rows c)
  pub few : (i : ℕ) → node_of (slot (slots_of rows c) i) ≡ Some n → count_of (slot (slots_of rows c) i) < 2 ^ 64 - 1

-- ---- the table

-- The table has what the clients hold after the effects.
abbrev pub Tracks : Effects → Grants → Type 0
Tracks d g = TracksRows d g.rows.items

-- A grant to client c allocates nothing.
abbrev pub CanGrant : Grants → ℕ → Node → Type 0
CanGrant g c n = CanGrantRow g.rows.items c n

-- A client's handles have room for this many new objects without an allocation.
abbrev pub spare_for : Grants → ℕ → ℕ
spare_for g c = spare_of g.rows.items c
