-- What a policy says of an access that was denied.
use Rattle.std.specs.Prelude.{ℕ, Bool, true, false, not, if◌then◌else◌, List, ◌++◌, find, Option, Some, None, codes}
use Rattle.std.specs.Prelude.{option_map}
use Rattle.std.specs.List.{list_any}
use Rattle.sm_values.specs.declared.class.Class.{Class}
use Rattle.sm_values.specs.declared.perms.Perms.{Perms}
use Rattle.sm_values.specs.Contexts.{type_of}
use Rattle.sm_values.specs.Messages.{access_words, name_text, numbered}
use Rattle.sm_ruletext.specs.declared.statement.RuleKind.TheVariants.{Neverallow}
use Rattle.sm_types.specs.Denoting.{declares}
use Rattle.sm_rules.specs.Access.{covers}
use Rattle.sm_rules.specs.Keeping.{class_at, perm_at, rules_in}
use Rattle.sm_contexts.specs.Reading.{has_key}
use Rattle.sm_policy.specs.Policy.{Policy, label_of, written_at}
use Rattle.sm_suggestions.specs.declared.verdict.Verdict.{Verdict}
use Rattle.sm_suggestions.specs.declared.verdict.Verdict.TheVariants.{Unknown, Allowed, Forbidden, Default, Missing}

-- This is the line of the first neverallow rule that covers an access.
unfoldable pub forbidden_at : Policy → List ℕ → List ℕ → Class → Perms → Option ℕ
forbidden_at policy s t class perm = option_map (λ r. r.0)
    (find (λ r. covers policy.statements s t class perm r.1) (rules_in Neverallow policy.statements))

-- This is a name that has no key of its own in the contexts file.
abbrev pub unlabelled : Policy → Option (List ℕ) → Option (List ℕ)
unlabelled policy None = None
unlabelled policy (Some name) = if list_any (has_key name) policy.entries then None else Some name

-- An access that no rule names is missing, unless its name wants a label first.
abbrev pub missing_or : Option (List ℕ) → Verdict
missing_or None = Missing
missing_or (Some name) = Default name

-- An access is forbidden by the rule of a line, if there is one.
abbrev pub forbidden_or : Option ℕ → Option (List ℕ) → Verdict
forbidden_or (Some line) name = Forbidden line
forbidden_or None name = missing_or name

-- An access is allowed by the rule of a line, if there is one.
abbrev pub allowed_or : Option ℕ → Option ℕ → Option (List ℕ) → Verdict
allowed_or (Some line) never name = Allowed line
allowed_or None never name = forbidden_or never name

-- This is the verdict on an access, whose permission is given by its number, to a service of this name: the first of
-- the five that is so.
unfoldable pub verdict : Policy → List ℕ → List ℕ → Option (List ℕ) → ℕ → Verdict
verdict policy s t name b =
    if not (declares policy.statements s) then Unknown s
    else if not (declares policy.statements t) then Unknown t
    else allowed_or (written_at policy s t (class_at b) (perm_at b)) (forbidden_at policy s t (class_at b) (perm_at b))
    (unlabelled policy name)

-- A rule grants the access.
abbrev pub is_allowed : Verdict → Bool
is_allowed (Allowed line) = true
is_allowed (Unknown word) = false
is_allowed (Forbidden line) = false
is_allowed (Default name) = false
is_allowed Missing = false

-- A verdict is written so.
abbrev pub verdict_words : Verdict → List ℕ
verdict_words (Unknown word) = codes "unknown " ++ word
verdict_words (Allowed line) = numbered (codes "allowed ") line
verdict_words (Forbidden line) = numbered (codes "forbidden ") line
verdict_words (Default name) = codes "default " ++ name_text name
verdict_words Missing = codes "missing"

-- This is the suggestion for an access: its verdict and its words.
unfoldable pub suggestion : Policy → List ℕ → List ℕ → Option (List ℕ) → ℕ → List ℕ
suggestion policy s t name b =
    verdict_words (verdict policy s t name b) ++ codes " " ++ access_words s t (class_at b) (perm_at b)

-- This is the target of an access to a service of this name: the type of its label. Without a name it is the type of
-- the record.
abbrev pub target_of : Policy → List ℕ → Option (List ℕ) → List ℕ
target_of policy target None = target
target_of policy target (Some name) = type_of (label_of policy name)
