-- The highest count of grants in rows of handles.
use Rattle.std.specs.Prelude.{ℕ, max, List, [], ◌∷◌}
use Rattle.sm_grants.specs.declared.rows.ClientHandles.{ClientHandles}
use Rattle.sm_history.specs.Tables.{Slots}
use Rattle.sm_grants.specs.Slots.{count_of}

-- This is the highest count of one client.
abbrev pub highest_in : Slots → ℕ
highest_in [] = 0
highest_in (x ∷ s) = max (count_of x) (highest_in s)

-- This is the highest count of all clients.
abbrev pub highest : List ClientHandles → ℕ
highest [] = 0
highest (r ∷ rows) = max (highest_in r.handles.slots) (highest rows)
