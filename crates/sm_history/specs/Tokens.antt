-- What a token knows: the history that it has seen.
use Rattle.std.specs.Prelude.{◌≡◌, ◌≤◌, ◌<◌, ℕ, Bool, nat_eq, Option, Some, None}
use Rattle.sm_history.specs.declared.by.By.{By}
use Rattle.sm_history.specs.Books.{Book}
use Rattle.sm_history.specs.Histories.{turn_of}
use Rattle.sm_history.specs.BookOrder.{Begins, IsLawfulBook}

-- A token has an actor, the book that it has seen, and the number of its reads.
pub record Knows : Type 0 where
  pub by : By
  pub seen : Book
  pub reads : ℕ

-- This is the token with these parts.
abbrev pub token : By → Book → ℕ → Knows
token by seen reads = record { by = by; seen = seen; reads = reads }

-- This is the number of changes of the token's actor in what it has seen.
abbrev pub turn : Knows → ℕ
turn t = turn_of t.seen.history t.by

-- The token sees as many changes of its actor as it did before.
abbrev pub keeps_turn : Knows → Knows → Bool
keeps_turn old new = nat_eq (turn new) (turn old)

-- This is the value of an option, seen by a function, or a default.
abbrev pub at_or : {R K : Type 0} → K → (R → K) → Option R → K
at_or other value None = other
at_or other value (Some r) = value r

-- What the token sees now is lawful, and begins with all that it had seen. It hasn't read less often.
pub record Grows (old new : Knows) : Type 0 where
  pub by : new.by ≡ old.by
  pub lawful : IsLawfulBook new.seen
  pub begins : Begins new.seen old.seen
  pub reads : old.reads ≤ new.reads

-- The token has read the published history once more at least, and sees this book now. It is lawful, and begins with
-- all that the token had seen.
pub record Sees (old : Knows) (b : Book) (new : Knows) : Type 0 where
  pub grows : Grows old new
  pub entered : old.reads < new.reads
  pub is : new.seen ≡ b
