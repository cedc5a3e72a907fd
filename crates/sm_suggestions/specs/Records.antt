-- The records of denials in a log.
use Rattle.std.specs.Prelude.{ℕ, Bool, ◌+◌, ◌&&◌, ◌==◌, not, nat_lt, if◌then◌else◌, List, [], ◌∷◌, take, drop}
use Rattle.std.specs.Prelude.{length, position, Option, Some, None, option_and_then, codes, count_by, unwrap_or}
use Rattle.std.specs.List.{filter_map, list_any}
use Rattle.std.specs.Str.{bytes_eq}
use Rattle.sm_values.specs.Contexts.{is_context, type_of}
use Rattle.sm_values.specs.Permissions.{class_word, perm_word}
use Rattle.sm_contexts.specs.Lines.{lines}
use Rattle.sm_rules.specs.Keeping.{class_at, perm_at}
use Rattle.sm_suggestions.specs.LogWords.{after, words}
use Rattle.sm_suggestions.specs.declared.limits.TheConstants.{MOST_LINE_BYTES}

-- A record has the types of two contexts, the words for a class and for permissions, and perhaps a name.
pub record Record : Type 0 where
  pub source : List ℕ
  pub target : List ℕ
  pub class : List ℕ
  pub perms : List (List ℕ)
  pub name : Option (List ℕ)

-- ---- fields

-- This is the value of a word, if it begins so.
abbrev pub value_in : List ℕ → List ℕ → Option (List ℕ)
value_in key word = if bytes_eq key (take (length key) word) then Some (drop (length key) word) else None

-- These are the values of the words that begin so.
abbrev pub values : List ℕ → List (List ℕ) → List (List ℕ)
values key words = filter_map (value_in key) words

-- Some word begins so.
abbrev pub has_value : List ℕ → List (List ℕ) → Bool
has_value key words = not (length (values key words) == 0)

-- This is the only one of some values.
abbrev pub only : List (List ℕ) → Option (List ℕ)
only [] = None
only (value ∷ []) = Some value
only (value ∷ second ∷ more) = None

-- This is the value, if there is one. There must not be several.
abbrev pub at_most_one : List (List ℕ) → Option (Option (List ℕ))
at_most_one [] = Some None
at_most_one (value ∷ []) = Some (Some value)
at_most_one (value ∷ second ∷ more) = None

-- This is the type of a value that is a context.
abbrev pub type_in : List ℕ → Option (List ℕ)
type_in value = if is_context value then Some (type_of value) else None

-- This is the type of the only context.
abbrev pub type_field : List ℕ → List (List ℕ) → Option (List ℕ)
type_field key words = option_and_then type_in (only (values key words))

-- ---- lines

-- This is the record with these permissions, if the words behind them have the fields, each once.
unfoldable pub record_with : List (List ℕ) → List (List ℕ) → Option Record
record_with perms fields =
    option_and_then (λ source.
    option_and_then (λ target.
    option_and_then (λ class.
    option_and_then (λ name.
    Some (record { source = source; target = target; class = class; perms = perms; name = name }))
    (at_most_one (values (codes "name=") fields)))
    (only (values (codes "tclass=") fields)))
    (type_field (codes "tcontext=") fields))
    (type_field (codes "scontext=") fields)

-- This is the record whose permissions begin here and end at `}`.
abbrev pub record_from : List (List ℕ) → Option Record
record_from words =
    option_and_then (λ n. record_with (take n words) (drop (n + 1) words)) (position (bytes_eq (codes "}")) words)

-- These words have a record if `avc:`, `denied` and `{` are among them in this order.
unfoldable pub record_of : List (List ℕ) → Option Record
record_of words =
    option_and_then record_from (option_and_then (after (codes "{"))
    (option_and_then (after (codes "denied")) (after (codes "avc:") words)))

-- A line is too long to be read.
abbrev pub is_long : List ℕ → Bool
is_long line = nat_lt MOST_LINE_BYTES (length line)

-- This is the record of a line.
abbrev pub record_in : List ℕ → Option Record
record_in line = if is_long line then None else record_of (words line)

-- These are the records of a log, in the order of its lines.
unfoldable pub records_of : List ℕ → List Record
records_of log = filter_map record_in (lines log)

-- This is the number of lines of a log that are too long to be read.
unfoldable pub skipped : List ℕ → ℕ
skipped log = count_by is_long (lines log)

-- ---- accesses

-- This is the word of a permission, which is given by its number.
abbrev pub word_at : ℕ → List ℕ
word_at b = unwrap_or (perm_word (perm_at b)) []

-- The record has the permission of a number: its class and its word are there.
abbrev pub has_perm : Record → ℕ → Bool
has_perm r b = bytes_eq r.class (class_word (class_at b)) && list_any (bytes_eq (word_at b)) r.perms
