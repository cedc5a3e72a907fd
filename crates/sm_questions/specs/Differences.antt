-- What `svcmgr diff` writes.
use Rattle.std.specs.Prelude.{ℕ, Bool, not, ◌&&◌, nat_lt, if◌then◌else◌, List, [], ◌∷◌, ◌++◌, length, codes}
use Rattle.std.specs.List.{flat_map}
use Rattle.sm_values.specs.Messages.{access_words}
use Rattle.sm_types.specs.Denoting.{types}
use Rattle.sm_rules.specs.Keeping.{class_at, perm_at}
use Rattle.sm_policy.specs.Policy.{Policy, allowed, is_permissive}
use Rattle.sm_questions.specs.Accesses.{perm_numbers}
use Rattle.sm_questions.specs.Relabelled.{all_changed, all_added}

-- There is a line.
abbrev pub is_any : List ℕ → Bool
is_any lines = nat_lt 0 (length lines)

-- One policy allows the access, and the other one doesn't.
unfoldable pub is_lost : Policy → Policy → List ℕ → List ℕ → ℕ → Bool
is_lost one other s t b =
    allowed one s t (class_at b) (perm_at b) && not (allowed other s t (class_at b) (perm_at b))

-- An access that only one policy allows is written behind a sign.
unfoldable pub lost_line : ℕ → List ℕ → List ℕ → ℕ → List ℕ
lost_line sign s t b = sign ∷ 32 ∷ (access_words s t (class_at b) (perm_at b) ++ codes "\n")

-- This is the line for an access, if only the first policy allows it.
unfoldable pub lost_perm : ℕ → Policy → Policy → List ℕ → List ℕ → ℕ → List ℕ
lost_perm sign one other s t b = if is_lost one other s t b then lost_line sign s t b else []

-- These are the lines for a source and a target.
unfoldable pub lost_pair : ℕ → Policy → Policy → List ℕ → List ℕ → List ℕ
lost_pair sign one other s t = flat_map (lost_perm sign one other s t) perm_numbers

-- These are the lines for a source, with all targets.
unfoldable pub lost_source : ℕ → Policy → Policy → List ℕ → List ℕ
lost_source sign one other s = flat_map (lost_pair sign one other s) (types one.statements)

-- These are the lines for all accesses that only the first policy allows. Types are compared by their names, in the
-- order in which the first policy declares them.
unfoldable pub lost : ℕ → Policy → Policy → List ℕ
lost sign one other = flat_map (lost_source sign one other) (types one.statements)

-- A permissive type is written so.
unfoldable pub permissive_words : List ℕ → List ℕ
permissive_words s = codes "permissive " ++ s

-- A type that is permissive in only one policy is written behind a sign.
unfoldable pub turned_line : ℕ → List ℕ → List ℕ
turned_line sign s = sign ∷ 32 ∷ (permissive_words s ++ codes "\n")

-- This is the line for a type, if it is permissive only in the first policy.
unfoldable pub turned_type : ℕ → Policy → Policy → List ℕ → List ℕ
turned_type sign one other s = if is_permissive one s && not (is_permissive other s) then turned_line sign s else []

-- These are the lines for all types that are permissive only in the first policy.
unfoldable pub turned : ℕ → Policy → Policy → List ℕ
turned sign one other = flat_map (turned_type sign one other) (types one.statements)

-- These are the lines for labels that differ, those of the old policy's keys first; then for types that ceased to be
-- permissive and for those that became so.
abbrev pub rest : Policy → Policy → List ℕ
rest old new = all_changed old new ++ all_added old new ++ (turned 45 old new ++ turned 43 new old)

-- These are the lines for two policies: accesses that the new one no longer allows, those that only it allows, and what
-- else differs.
unfoldable pub differences : Policy → Policy → List ℕ
differences old new = lost 45 old new ++ lost 43 new old ++ rest old new
