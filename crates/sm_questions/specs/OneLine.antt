-- A statement of a policy source on one line.
use Rattle.std.specs.Prelude.{ℕ, ◌+◌, ◌-◌, Bool, true, false, ◌&&◌, not, ◌==◌, if◌then◌else◌}
use Rattle.std.specs.Prelude.{List, [], ◌∷◌, ◌++◌, codes, length, take, drop}
use Rattle.std.specs.List.{ends_with, prefix_len}
use Rattle.sm_values.specs.Lines.{is_blank}
use Rattle.sm_contexts.specs.Lines.{lines}

-- This is the number of bytes of a line before the first one with this value, or of all.
abbrev pub len_before : ℕ → List ℕ → ℕ
len_before end line = prefix_len (λ b. not (b == end)) line

-- This is a line without its comment.
abbrev pub code : List ℕ → List ℕ
code line = take (len_before 35 line) line

-- This is a line through its first semicolon, or all of it.
abbrev pub through_semicolon : List ℕ → List ℕ
through_semicolon line = take (len_before 59 line + 1) line

-- A byte follows a text, behind a space if one is owed and something is before it.
abbrev pub with_byte : Bool → List ℕ → ℕ → List ℕ
with_byte owes text b = if owes && not (length text == 0) then text ++ 32 ∷ b ∷ [] else text ++ b ∷ []

-- The words of a line follow a text, with one space between them.
abbrev pub with_words : Bool → List ℕ → List ℕ → List ℕ
with_words owes text [] = text
with_words owes text (b ∷ bytes) =
    if is_blank b then with_words true text bytes else with_words false (with_byte owes text b) bytes

-- Further lines follow a text, until it ends with a semicolon.
abbrev pub with_lines : List ℕ → List (List ℕ) → List ℕ
with_lines text [] = text
with_lines text (line ∷ further) = if ends_with ◌==◌ text (codes ";") then text
    else with_lines (with_words true text (through_semicolon (code line))) further

-- This is the first of these lines, and what follows it through the next semicolon, if it doesn't end with one.
abbrev pub first_statement : List (List ℕ) → List ℕ
first_statement [] = []
first_statement (line ∷ further) = with_lines (with_words true [] (code line)) further

-- This is that statement, or its first 4,096 bytes.
abbrev pub shown_statement : List (List ℕ) → List ℕ
shown_statement further = take 4096 (first_statement further)

-- This is the statement of a line, or its first 4,096 bytes.
abbrev pub statement_at : List ℕ → ℕ → List ℕ
statement_at text number = shown_statement (drop (number - 1) (lines text))
