-- The entries of a contexts file, and the label of a name.
use Rattle.std.specs.Prelude.{◌≡◌, ◌≤◌, ℕ, ◌+◌, Bool, true, false, not, ◌&&◌, ◌||◌, ◌==◌, nat_lt, if◌then◌else◌, List}
use Rattle.std.specs.Prelude.{[], ◌∷◌, ◌++◌, length, count_by, find, slice_index, Option, Some, None, Result, Ok, Err}
use Rattle.std.specs.Prelude.{codes, option_map, position}
use Rattle.std.specs.Option.{option_or}
use Rattle.std.specs.List.{list_any}
use Rattle.std.specs.Str.{bytes_eq}
use Rattle.std.specs.Borrow.{Bor}
use Rattle.sm_values.specs.Contexts.{is_context}
use Rattle.sm_values.specs.Reading.{◌>>=◌}
use Rattle.sm_values.specs.declared.limits.TheConstants.{MOST_TEXT_BYTES}
use Rattle.sm_contexts.specs.declared.limits.TheConstants.{MOST_ENTRY_LINES}
use Rattle.sm_contexts.specs.declared.fault.ContextsFault.{ContextsFault}
use Rattle.sm_contexts.specs.declared.fault.ContextsFault.TheVariants.{TooLarge, BadLine, Conflict, TwoDefaults}
use Rattle.sm_contexts.specs.declared.fault.ContextsFault.TheVariants.{NoDefault, Memory}
use Rattle.sm_contexts.specs.Lines.{lines, first_word, after_word}

-- An entry has the first line of a key, counted from 1, the key, and the context on it.
pub record Entry : Type 0 where
  pub line : ℕ
  pub key : List ℕ
  pub context : List ℕ

-- A reader returns a value or a fault of the contexts file.
abbrev pub Read : Type 0 → Type 0
Read A = Result A ContextsFault

-- The fault is a failed allocation.
abbrev pub is_memory : ContextsFault → Bool
is_memory Memory = true
is_memory TooLarge = false
is_memory (BadLine n) = false
is_memory (Conflict m n) = false
is_memory (TwoDefaults n) = false
is_memory NoDefault = false

-- The line with this key is for every other name.
abbrev pub default_key : List ℕ
default_key = codes "*"

-- An entry has this key.
abbrev pub has_key : List ℕ → Entry → Bool
has_key key e = bytes_eq key e.key

-- A line has words and is no comment.
abbrev pub is_entry : List ℕ → Bool
is_entry line = not (length (first_word line) == 0 || slice_index (first_word line) 0 == 35)

-- Line n is added so, if this is the earlier entry of its key, or if there is none.
abbrev pub placed : ℕ → List Entry → List ℕ → List ℕ → Option Entry → Read (List Entry)
placed n entries key context None = Ok (entries ++ record { line = n; key = key; context = context } ∷ [])
placed n entries key context (Some e) =
    if bytes_eq key default_key then Err (TwoDefaults n)
    else if bytes_eq e.context context then Ok entries
    else Err (Conflict e.line n)

-- Line n gives a context to a key.
unfoldable pub with_entry : ℕ → List Entry → List ℕ → List ℕ → Read (List Entry)
with_entry n entries key context = placed n entries key context (find (has_key key) entries)

-- The second word of line n must be a context.
abbrev pub context_at : ℕ → List ℕ → Read (List ℕ)
context_at n word = if is_context word then Ok word else Err (BadLine n)

-- Line n is added to the entries of the lines before it.
unfoldable pub with_line : ℕ → List Entry → List ℕ → Read (List Entry)
with_line n entries line =
    if is_entry line then (context_at n (first_word (after_word line))
    >>= λ context. with_entry n entries (first_word line) context)
    else Ok entries

-- The lines from line n on are added to the entries of those before.
unfoldable pub entries_from : ℕ → List Entry → List (List ℕ) → Read (List Entry)
entries_from n entries [] = if list_any (has_key default_key) entries then Ok entries else Err NoDefault
entries_from n entries (line ∷ more) = with_line n entries line >>= λ e. entries_from (n + 1) e more

-- This is the empty list of entries.
abbrev pub no_entries : List Entry
no_entries = []

-- This is the first line of each key, in order, or the first fault.
unfoldable pub read : List ℕ → Read (List Entry)
read text =
    if nat_lt MOST_TEXT_BYTES (length text) then Err TooLarge
    else if nat_lt MOST_ENTRY_LINES (count_by is_entry (lines text)) then Err TooLarge
    else entries_from 1 [] (lines text)

-- There is a line for `*`, and there are no more entries than a file may have bytes.
pub record IsWhole (entries : List Entry) : Type 0 where
  pub has_default : list_any (has_key default_key) entries ≡ true
  pub few : length entries ≤ MOST_TEXT_BYTES

-- The entries are whole, and `default` is the index of the one for `*`.
pub record IsKept (entries : List Entry) (default : ℕ) : Type 0 where
  pub whole : IsWhole entries
  pub placed : position (has_key default_key) entries ≡ Some default

-- An entry says this of its key.
abbrev pub line_and_context : Entry → ℕ × List ℕ
line_and_context e = (e.line, e.context)

-- A line and a reference to a context say this.
abbrev pub seen : ℕ × Bor (List ℕ) → ℕ × List ℕ
seen e = (e.0, e.1.now)

-- This is the entry of the key, otherwise that of `*`.
abbrev pub or_default : List Entry → Option Entry → Option Entry
or_default entries None = find (has_key default_key) entries
or_default entries (Some e) = Some e

-- This is the context of a name: that on the line with this key, otherwise that on the line `*`.
abbrev pub label : List Entry → List ℕ → Option (List ℕ)
label entries name = option_map (λ e. e.context) (or_default entries (find (has_key name) entries))

-- This is the index of that entry.
abbrev pub label_place : List Entry → List ℕ → Option ℕ
label_place entries name = option_or (position (has_key name) entries) (position (has_key default_key) entries)

-- A line gives a context to a name.
abbrev pub is_line_of : List ℕ → List ℕ → Bool
is_line_of name line = is_entry line && bytes_eq name (first_word line)

-- This is the first line with this key, from line n on, and the context on it.
abbrev pub line_of : List ℕ → ℕ → List (List ℕ) → Option (ℕ × List ℕ)
line_of name n [] = None
line_of name n (line ∷ more) =
    if is_line_of name line then Some (n, first_word (after_word line)) else line_of name (n + 1) more

-- The entries have, for each key, the first line of the file with this key, and the context on it.
abbrev pub AreFirstLines : List ℕ → List Entry → Type 0
AreFirstLines text entries = (name : List ℕ)
    → option_map line_and_context (find (has_key name) entries) ≡ line_of name 1 (lines text)
