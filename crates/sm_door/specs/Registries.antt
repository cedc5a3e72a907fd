-- A registry: a list of books in which each number denotes one book for good.
use Rattle.std.specs.Prelude.{ℕ, ◌≡◌, ◌==◌, true, List, [], ◌∷◌, ◌++◌, length, slice_index_or, MatchBool}
use Rattle.logbook.specs.Pages.{Cell, Step, View, Named, Book as Log}
use Rattle.sm_history.specs.Books.{Book}
use Rattle.sm_history.specs.Histories.{whole}

-- This book has no history and no slots.
abbrev pub blank_book : Book
blank_book = record { places = 0; history = whole [] }

-- This is the book at a number.
abbrev pub registered : List Book → ℕ → Book
registered registry number = slice_index_or registry number blank_book

-- The rule is that the first word is the number of recorded books. A log has two words; the second stays 0.
abbrev pub IsKept : List Cell → List Book → Type 0
IsKept cells registry = cells ≡ (length registry, true) ∷ (0, true) ∷ []

-- This is the first word of a log.
abbrev pub head_of : Log → Named
head_of l = record { tracked = true; key = 0; book = l }

-- A step says that the book was appended after all that had been seen, or that more were recorded, and are seen now.
abbrev pub Adds : Step Book → View Book ℕ → ℕ → View Book ℕ → Type 0
Adds s v found w = MatchBool (found == s.old) (w.0 ≡ v.0 ++ s.ask ∷ []) (length w.0 ≡ found)
