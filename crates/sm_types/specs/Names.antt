-- Lists of distinct names.
use Rattle.std.specs.Prelude.{◌≡◌, ℕ, Bool, true, false, ◌<◌, nat_eq, List, [], length, Option, Some, None}
use Rattle.std.proofs.Common.{get_or}
use Rattle.std.specs.Str.{bytes_eq}

-- A name is a list of bytes.
abbrev pub Name : Type 0
Name = List ℕ

-- This is the name at an index.
abbrev pub at : List Name → ℕ → Name
at names i = get_or names i []

-- No two names are equal.
abbrev pub Distinct : List Name → Type 0
Distinct names = (i j : ℕ) → i < length names → j < length names → bytes_eq (at names i) (at names j) ≡ true → i ≡ j

-- An index is this one.
abbrev pub is_at : Option ℕ → ℕ → Bool
is_at (Some k) j = nat_eq j k
is_at None j = false
