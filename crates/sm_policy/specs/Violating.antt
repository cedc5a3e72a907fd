-- The first broken neverallow rule, and the allow rule that breaks it.
use Rattle.std.specs.Prelude.{ℕ, ◌&&◌, if◌then◌else◌, List, [], ◌∷◌, Option, Some, None}
use Rattle.std.specs.Option.{option_or}
use Rattle.sm_ruletext.specs.declared.rule.Rule.{Rule}
use Rattle.sm_ruletext.specs.declared.statement.RuleKind.TheVariants.{Allow, Neverallow}
use Rattle.sm_ruletext.specs.declared.statement.Statement.{Statement}
use Rattle.sm_types.specs.Denoting.{types}
use Rattle.sm_rules.specs.Access.{covers}
use Rattle.sm_rules.specs.Keeping.{rules_in, class_at, perm_at}
use Rattle.sm_types.specs.Names.{Name, at}
use Rattle.sm_neverallow.specs.declared.violation.NumberedViolation.{NumberedViolation as Numbered}
use Rattle.sm_policy.specs.declared.violation.Violation.{Violation}

-- This is the first result of f on the items, in their order.
abbrev pub first_some : {A B : Type 0} → (A → Option B) → List A → Option B
first_some f [] = None
first_some f (x ∷ xs) = option_or (f x) (first_some f xs)

-- These are the numbers of the permissions.
abbrev pub perm_numbers : List ℕ
perm_numbers = 0 ∷ 1 ∷ 2 ∷ 3 ∷ 4 ∷ 5 ∷ 6 ∷ []

-- Two rules, each with its line, both cover permission b for source s and target t.
unfoldable pub clash : List Statement → ℕ × Rule → ℕ × Rule → List ℕ → List ℕ → ℕ → Option Violation
clash policy never allow s t b =
    if covers policy s t (class_at b) (perm_at b) allow.1 && covers policy s t (class_at b) (perm_at b) never.1
    then Some (record {
      never_line = never.0;
      allow_line = allow.0;
      source = s;
      target = t;
      class = class_at b;
      perm = perm_at b;
    })
    else None

-- This is the first permission that both rules cover for s and t, as a violation.
unfoldable pub clash_of_pair : List Statement → ℕ × Rule → ℕ × Rule → List ℕ → List ℕ → Option Violation
clash_of_pair policy never allow s t = first_some (clash policy never allow s t) perm_numbers

-- This is the first violation of both rules with source s.
unfoldable pub clash_of_source : List Statement → ℕ × Rule → ℕ × Rule → List ℕ → Option Violation
clash_of_source policy never allow s = first_some (clash_of_pair policy never allow s) (types policy)

-- This is the first access that two rules have in common: the least source, then the least target, then the first
-- permission. Types are in the order of their declaration.
unfoldable pub first_clash : List Statement → ℕ × Rule → ℕ × Rule → Option Violation
first_clash policy never allow = first_some (clash_of_source policy never allow) (types policy)

-- This is the first violation of a neverallow rule.
unfoldable pub clash_of_never : List Statement → ℕ × Rule → Option Violation
clash_of_never policy never = first_some (first_clash policy never) (rules_in Allow policy)

-- The first violation is that of the first broken neverallow rule in the file. It has the first allow rule that breaks
-- it, and the first access that they have in common.
unfoldable pub first_violation : List Statement → Option Violation
first_violation policy = first_some (clash_of_never policy) (rules_in Neverallow policy)

-- This is a violation with the names of its types.
abbrev pub named_violation : List Name → Numbered → Violation
named_violation names v = record {
  never_line = v.never_line;
  allow_line = v.allow_line;
  source = at names v.source;
  target = at names v.target;
  class = v.class;
  perm = v.perm;
}
