-- Policies without some of their unused rules.
use Rattle.std.specs.Prelude.{◌≡◌, ℕ, Bool, true, false, not, ◌||◌, if◌then◌else◌, List, [], ◌∷◌, ◌++◌, Option, Some, None}
use Rattle.sm_ruletext.specs.declared.rule.Rule.{Rule}
use Rattle.sm_ruletext.specs.declared.statement.RuleKind.TheVariants.{Allow, Dontaudit}
use Rattle.sm_ruletext.specs.declared.statement.Statement.{Statement}
use Rattle.sm_rules.specs.Keeping.{rule_in, rules_in}
use Rattle.sm_policy.specs.Policy.{Policy}
use Rattle.sm_unused.specs.Unused.{covers_more}

-- There is a rule, and it covers only what these others cover.
abbrev pub covers_no_more : List Statement → List (ℕ × Rule) → Option (ℕ × Rule) → Bool
covers_no_more policy others None = false
covers_no_more policy others (Some r) = not (covers_more policy others r.1)

-- A statement below others has a line of `rule` or `dontaudit`.
abbrev pub has_line : List Statement → List Statement → Statement → Bool
has_line policy above statement =
    covers_no_more policy (rules_in Allow above) (rule_in Allow statement)
    || covers_no_more policy (rules_in Allow policy) (rule_in Dontaudit statement)

-- This says of each statement, with those above it, whether it is kept.
abbrev pub Keep : Type 0
Keep = List Statement → Statement → Bool

-- Only statements that have a line aren't kept.
abbrev pub KeepsUsed : List Statement → Keep → Type 0
KeepsUsed policy keep = (above : List Statement) (statement : Statement) → keep above statement ≡ false
    → has_line policy above statement ≡ true

-- Of the statements below others, these are kept.
abbrev pub kept_below : Keep → List Statement → List Statement → List Statement
kept_below keep above [] = []
kept_below keep above (statement ∷ statements) =
    if keep above statement then statement ∷ kept_below keep (above ++ statement ∷ []) statements
    else kept_below keep (above ++ statement ∷ []) statements

-- This is the policy with the statements that are kept.
abbrev pub kept : Policy → Keep → Policy
kept policy keep = record { statements = kept_below keep [] policy.statements; entries = policy.entries }
