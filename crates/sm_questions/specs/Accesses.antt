-- What `svcmgr access` writes.
use Rattle.std.specs.Prelude.{ℕ, Bool, true, ◌&&◌, if◌then◌else◌, List, [], ◌∷◌, ◌++◌, Option, Some, None, codes}
use Rattle.std.specs.List.{flat_map}
use Rattle.std.specs.Str.{bytes_eq}
use Rattle.sm_bits.specs.Bits.{has_bit}
use Rattle.sm_values.specs.Messages.{access_words, numbered}
use Rattle.sm_types.specs.Denoting.{types}
use Rattle.sm_rules.specs.Keeping.{class_at, perm_at}
use Rattle.sm_policy.specs.Policy.{Policy, allowed, written_at}
use Rattle.sm_questions.specs.declared.filtering.Filter.{Filter}

-- A type is the one that is asked for, or none is.
abbrev pub is_left : Option (List ℕ) → List ℕ → Bool
is_left None name = true
is_left (Some word) name = bytes_eq word name

-- An access is allowed by the rule of a line, or only since its source is permissive.
abbrev pub granted_by : Option ℕ → List ℕ
granted_by None = codes " permissive"
granted_by (Some line) = numbered (codes " ") line

-- This is the line for an access, whose permission is given by its number.
unfoldable pub access_line : Policy → List ℕ → List ℕ → ℕ → List ℕ
access_line policy s t b =
    access_words s t (class_at b) (perm_at b)
    ++ granted_by (written_at policy s t (class_at b) (perm_at b))
    ++ codes "\n"

-- An access has a line if its permission is asked for and it is allowed.
unfoldable pub perm_lines : Policy → ℕ → List ℕ → List ℕ → ℕ → List ℕ
perm_lines policy wanted s t b =
    if has_bit wanted b && allowed policy s t (class_at b) (perm_at b) then access_line policy s t b else []

-- These are the numbers of the permissions, in the order of the table of classes and permissions.
abbrev pub perm_numbers : List ℕ
perm_numbers = 0 ∷ 1 ∷ 2 ∷ 3 ∷ 4 ∷ 5 ∷ 6 ∷ []

-- These are the lines for a source and a target.
unfoldable pub pair_lines : Policy → ℕ → List ℕ → List ℕ → List ℕ
pair_lines policy wanted s t = flat_map (perm_lines policy wanted s t) perm_numbers

-- These are the lines for a source and a target, if the target is asked for.
unfoldable pub target_lines : Policy → Filter → List ℕ → List ℕ → List ℕ
target_lines policy filter s t = if is_left filter.target t then pair_lines policy filter.perms.0 s t else []

-- These are the lines for a source, with all targets.
unfoldable pub targets_lines : Policy → Filter → List ℕ → List ℕ
targets_lines policy filter s = flat_map (target_lines policy filter s) (types policy.statements)

-- These are the lines for a source, if it is asked for.
unfoldable pub source_lines : Policy → Filter → List ℕ → List ℕ
source_lines policy filter s = if is_left filter.source s then targets_lines policy filter s else []

-- These are the lines for all accesses that are asked for and allowed. Sources and targets are in the order of their
-- declaration.
unfoldable pub access_lines : Policy → Filter → List ℕ
access_lines policy filter = flat_map (source_lines policy filter) (types policy.statements)
