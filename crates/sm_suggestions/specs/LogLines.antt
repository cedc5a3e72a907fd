-- What each line of a log adds.
use Rattle.std.specs.Prelude.{ℕ, Bool, true, if◌then◌else◌, List, [], Option, Some, None}
use Rattle.sm_policy.specs.Policy.{Policy}
use Rattle.sm_suggestions.specs.Records.{Record, is_long, record_in}
use Rattle.sm_suggestions.specs.Suggesting.{record_allowed, record_suggestions}

-- These are the suggestions for a record, if there is one.
abbrev pub suggestions_if : Policy → Option Record → List (List ℕ)
suggestions_if policy None = []
suggestions_if policy (Some r) = record_suggestions policy r

-- These are the suggestions for a line.
abbrev pub line_suggestions : Policy → List ℕ → List (List ℕ)
line_suggestions policy line = suggestions_if policy (record_in line)

-- Rules grant all accesses of a record, if there is one.
abbrev pub allowed_if : Policy → Option Record → Bool
allowed_if policy None = true
allowed_if policy (Some r) = record_allowed policy r

-- Rules grant all accesses of a line.
abbrev pub line_allowed : Policy → List ℕ → Bool
line_allowed policy line = allowed_if policy (record_in line)

-- This is 1 for a line that is too long to be read.
abbrev pub long_count : List ℕ → ℕ
long_count line = if is_long line then 1 else 0
