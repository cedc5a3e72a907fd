-- What a client holds under each number, as the rows of a segment.
use Rattle.std.specs.Prelude.{◌∷◌, None}
use Rattle.sm_history.specs.Tables.{Slots}

-- Nothing is held under number 0.
abbrev pub listed_slots : Slots → Slots
listed_slots s = None ∷ s
