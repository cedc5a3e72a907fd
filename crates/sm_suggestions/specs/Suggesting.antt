-- What `svcmgr suggest` writes.
use Rattle.std.specs.Prelude.{ℕ, Bool, ◌&&◌, ◌||◌, ◌==◌, not, if◌then◌else◌, List, [], ◌∷◌, ◌++◌, codes, option_map}
use Rattle.std.specs.List.{flat_map, list_all}
use Rattle.sm_values.specs.Messages.{numbered}
use Rattle.sm_policy.specs.Policy.{Policy}
use Rattle.sm_suggestions.specs.Names.{name_in}
use Rattle.sm_suggestions.specs.Records.{Record, has_perm, records_of, skipped}
use Rattle.sm_suggestions.specs.Tallying.{count_line, counts}
use Rattle.sm_suggestions.specs.Verdicts.{is_allowed, suggestion, target_of, verdict}

-- These are the numbers of the permissions, in the order of the table of classes and permissions.
abbrev pub perm_numbers : List ℕ
perm_numbers = 0 ∷ 1 ∷ 2 ∷ 3 ∷ 4 ∷ 5 ∷ 6 ∷ []

-- This is the target of a record.
abbrev pub target_in : Policy → Record → List ℕ
target_in policy r = target_of policy r.target (option_map name_in r.name)

-- This is the suggestion for a permission, which is given by its number, if the record has it.
unfoldable pub perm_suggestions : Policy → Record → ℕ → List (List ℕ)
perm_suggestions policy r b =
    if has_perm r b then suggestion policy r.source (target_in policy r) (option_map name_in r.name) b ∷ [] else []

-- These are the suggestions for the accesses of a record.
unfoldable pub record_suggestions : Policy → Record → List (List ℕ)
record_suggestions policy r = flat_map (perm_suggestions policy r) perm_numbers

-- These are the suggestions for records, in their order.
abbrev pub suggestions : Policy → List Record → List (List ℕ)
suggestions policy records = flat_map (record_suggestions policy) records

-- A rule grants the permission now, if the record has it.
unfoldable pub perm_allowed : Policy → Record → ℕ → Bool
perm_allowed policy r b = not (has_perm r b)
    || is_allowed (verdict policy r.source (target_in policy r) (option_map name_in r.name) b)

-- Rules grant all accesses of a record now.
unfoldable pub record_allowed : Policy → Record → Bool
record_allowed policy r = list_all (perm_allowed policy r) perm_numbers

-- The last line has the number of lines that are too long, if there are any.
abbrev pub skipped_line : ℕ → List ℕ
skipped_line n = if n == 0 then [] else numbered (codes "skipped ") n ++ codes "\n"

-- These are the lines for a log: one for each suggestion, with the number of records that have it.
unfoldable pub suggestion_lines : Policy → List ℕ → List ℕ
suggestion_lines policy log =
    flat_map count_line (counts (suggestions policy (records_of log))) ++ skipped_line (skipped log)

-- Rules grant all accesses of a log now, and none of its lines is too long to be read.
unfoldable pub all_allowed : Policy → List ℕ → Bool
all_allowed policy log = list_all (record_allowed policy) (records_of log) && skipped log == 0
