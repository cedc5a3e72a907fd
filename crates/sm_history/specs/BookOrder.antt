-- Books that begin with other books.
use Rattle.std.specs.Prelude.{◌≡◌}
use Rattle.sm_history.specs.declared.entry.Entry.{Entry}
use Rattle.sm_history.specs.Histories.{entered}
use Rattle.sm_history.specs.Segments.{sealed}
use Rattle.sm_history.specs.Books.{Book}
use Rattle.sm_history.specs.Beginning.{BeginsWith}
use Rattle.sm_history.specs.Lawful.{IsLawful}

-- This is the book with one more change.
abbrev pub extended : Book → Entry → Book
extended b e = record { places = b.places; history = entered e b.history }

-- This is the book after a seal: its open segment is the next one, without changes.
abbrev pub sealed_book : Book → Book
sealed_book b = record { places = b.places; history = sealed b.history }

-- The book `new` begins with the book `old`: both have the same number of slots, and the one history begins with the
-- other.
pub record Begins (new old : Book) : Type 0 where
  pub places : new.places ≡ old.places
  pub history : BeginsWith new.places new.history old.history

-- A book's history is lawful with its slots.
abbrev pub IsLawfulBook : Book → Type 0
IsLawfulBook b = IsLawful b.places b.history
