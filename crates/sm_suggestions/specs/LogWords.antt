-- The words of a line of a log.
use Rattle.std.specs.Prelude.{ℕ, Bool, not, ◌==◌, ◌+◌, if◌then◌else◌, List, [], ◌∷◌, filter, length, drop, position}
use Rattle.std.specs.Prelude.{Option, option_map}
use Rattle.std.specs.Str.{bytes_eq}
use Rattle.sm_values.specs.Lines.{is_blank}
use Rattle.sm_contexts.specs.Lines.{onto_first}

-- These are the parts of a line between its spaces, tabs and carriage returns.
unfoldable pub parts : List ℕ → List (List ℕ)
parts [] = []
parts (b ∷ bytes) = if is_blank b then [] ∷ parts bytes else onto_first b (parts bytes)

-- A part is a word if it isn't empty.
abbrev pub is_word : List ℕ → Bool
is_word part = not (length part == 0)

-- These are the words of a line.
unfoldable pub words : List ℕ → List (List ℕ)
words line = filter is_word (parts line)

-- These are the words behind the first one that is spelled so, if there is one.
abbrev pub after : List ℕ → List (List ℕ) → Option (List (List ℕ))
after word words = option_map (λ n. drop (n + 1) words) (position (bytes_eq word) words)
