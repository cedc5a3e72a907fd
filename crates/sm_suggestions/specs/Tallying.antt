-- Lines with how often each of them is there.
use Rattle.std.specs.Prelude.{ℕ, ◌+◌, not, if◌then◌else◌, List, [], ◌∷◌, ◌++◌, filter, map, count_by, codes}
use Rattle.std.proofs.Common.{get_or}
use Rattle.std.specs.Global.{Vec}
use Rattle.std.specs.Str.{bytes_eq}
use Rattle.sm_values.specs.Messages.{numbered}

-- A line, and how often it is there.
pub record Count : Type 0 where
  pub line : List ℕ
  pub times : ℕ

-- These are the lines in the order in which they come first, each once.
unfoldable pub firsts : List (List ℕ) → List (List ℕ)
firsts [] = []
firsts (line ∷ lines) = line ∷ filter (λ other. not (bytes_eq line other)) (firsts lines)

-- This is a line with the number of its occurrences in a list.
abbrev pub count_in : List (List ℕ) → List ℕ → Count
count_in lines line = record { line = line; times = count_by (bytes_eq line) lines }

-- These are the lines in the order in which they come first, each with the number of its occurrences.
unfoldable pub counts : List (List ℕ) → List Count
counts lines = map (count_in lines) (firsts lines)

-- This is what is written for a line and its number.
abbrev pub count_line : Count → List ℕ
count_line c = c.line ++ numbered (codes " ") c.times ++ codes "\n"

-- This is what is written for the line of an index.
abbrev pub line_at : List Count → ℕ → List ℕ
line_at cs i = count_line (get_or cs i (record { line = []; times = 0 }))

-- ---- one line after the other

-- One more line is counted: it is there once more.
abbrev pub counted : List Count → List ℕ → List Count
counted [] line = record { line = line; times = 1 } ∷ []
counted (c ∷ cs) line =
    if bytes_eq line c.line then record { line = c.line; times = c.times + 1 } ∷ cs else c ∷ counted cs line

-- This is how often a line is there.
abbrev pub times_in : List ℕ → List Count → ℕ
times_in line [] = 0
times_in line (c ∷ cs) = if bytes_eq line c.line then c.times else times_in line cs

-- More lines are counted.
abbrev pub counted_all : List Count → List (List ℕ) → List Count
counted_all cs [] = cs
counted_all cs (line ∷ lines) = counted_all (counted cs line) lines

-- This is the number of all lines that were counted.
abbrev pub total : List Count → ℕ
total [] = 0
total (c ∷ cs) = c.times + total cs

-- This is what an entry of a table says.
abbrev pub count_of : Vec ℕ × ℕ → Count
count_of e = record { line = e.0.items; times = e.1 }
