-- Which rules of a policy are of no use, and what `svcmgr unused` writes.
use Rattle.std.specs.Prelude.{ℕ, Bool, not, ◌&&◌, if◌then◌else◌, List, [], ◌∷◌, ◌++◌, filter, map, codes}
use Rattle.std.specs.List.{flat_map, list_any}
use Rattle.sm_ruletext.specs.declared.rule.Rule.{Rule}
use Rattle.sm_ruletext.specs.declared.statement.RuleKind.TheVariants.{Allow, Dontaudit}
use Rattle.sm_ruletext.specs.declared.statement.Statement.{Statement}
use Rattle.sm_types.specs.Denoting.{types}
use Rattle.sm_rules.specs.Access.{covers}
use Rattle.sm_rules.specs.Keeping.{class_at, perm_at, rules_in}
use Rattle.sm_policy.specs.Policy.{Policy}
use Rattle.sm_questions.specs.Accesses.{perm_numbers}
use Rattle.sm_questions.specs.Shown.{shown_statement}
use Rattle.sm_unused.specs.Declarations.{declaration_lines}

-- Some of these rules covers an access, whose permission is given by its number.
abbrev pub some_cover : List Statement → List (ℕ × Rule) → List ℕ → List ℕ → ℕ → Bool
some_cover policy rules s t b = list_any (λ (r : ℕ × Rule). covers policy s t (class_at b) (perm_at b) r.1) rules

-- A rule covers an access, and none of the others does.
abbrev pub covers_new : List Statement → List (ℕ × Rule) → Rule → List ℕ → List ℕ → ℕ → Bool
covers_new policy others rule s t b =
    covers policy s t (class_at b) (perm_at b) rule && not (some_cover policy others s t b)

-- A rule covers some access that none of the others covers.
unfoldable pub covers_more : List Statement → List (ℕ × Rule) → Rule → Bool
covers_more policy others rule =
    list_any (λ s. list_any (λ t. list_any (covers_new policy others rule s t) perm_numbers) (types policy))
    (types policy)

-- Of the rules below others, these cover no access that the rules above them don't cover.
abbrev pub unused_below : List Statement → List (ℕ × Rule) → List (ℕ × Rule) → List (ℕ × Rule)
unused_below policy above [] = []
unused_below policy above (r ∷ rules) =
    if covers_more policy above r.1 then unused_below policy (above ++ r ∷ []) rules
    else r ∷ unused_below policy (above ++ r ∷ []) rules

-- These are the kept allow rules that grant no access which the rules above them don't grant, each with its line.
unfoldable pub unused_allows : List Statement → List (ℕ × Rule)
unused_allows policy = unused_below policy [] (rules_in Allow policy)

-- These are the kept dontaudit rules that cover only what some allow rule grants, each with its line.
unfoldable pub unused_dontaudits : List Statement → List (ℕ × Rule)
unused_dontaudits policy =
    filter (λ (r : ℕ × Rule). not (covers_more policy (rules_in Allow policy) r.1)) (rules_in Dontaudit policy)

-- This is the line for the statement of a number of a line: a word, and the statement as `FILE:LINE: STATEMENT`.
abbrev pub word_line : List ℕ → List ℕ → List ℕ → ℕ → List ℕ
word_line word path text number = word ++ shown_statement path text number

-- These are the lines for rules that allow, for those that don't audit, and for declarations. The numbers are those of
-- the rules' lines.
abbrev pub found_lines : List ℕ → List ℕ → List ℕ → List ℕ → List ℕ → List ℕ
found_lines path text allows dontaudits declared =
    flat_map (word_line (codes "rule ") path text) allows
    ++ flat_map (word_line (codes "dontaudit ") path text) dontaudits
    ++ declared

-- These are the numbers of the lines of some rules.
abbrev pub numbers_of : List (ℕ × Rule) → List ℕ
numbers_of rules = map (λ (r : ℕ × Rule). r.0) rules

-- These are the lines for the statements of a policy that are of no use. Its files have these paths, and its source has
-- this text.
unfoldable pub unused_lines : List ℕ → List ℕ → List ℕ → Policy → List ℕ
unused_lines rules_path contexts_path text policy =
    found_lines rules_path text
    (numbers_of (unused_allows policy.statements)) (numbers_of (unused_dontaudits policy.statements))
    (declaration_lines rules_path contexts_path policy)
