-- How fields are found: one value after the other.
use Rattle.std.specs.Prelude.{ℕ, List, [], ◌∷◌, Option, Some, None}
use Rattle.std.specs.Borrow.{Bor}
use Rattle.sm_suggestions.specs.Records.{values}

-- These are the values of a key if this is the first one with the words behind it.
abbrev pub found_values : List ℕ → Option (List ℕ × Bor (List (List ℕ))) → List (List ℕ)
found_values key None = []
found_values key (Some found) = found.0 ∷ values key found.1.now
