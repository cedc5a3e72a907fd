-- A list that may be left out where it is empty.
use Rattle.std.specs.Prelude.{List, [], Option, Some, None}

-- These are the items of what is there, or none.
abbrev pub items_in : {S X : Type 0} → Option S → (S → List X) → List X
items_in None items = []
items_in (Some s) items = items s
