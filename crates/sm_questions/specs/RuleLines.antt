-- What `svcmgr rules` writes.
use Rattle.std.specs.Prelude.{ℕ, Bool, ◌&&◌, List, filter, Option, Some, None}
use Rattle.std.specs.List.{filter_map, flat_map, list_any}
use Rattle.std.specs.Option.{option_or}
use Rattle.sm_bits.specs.Bits.{has_bit}
use Rattle.sm_ruletext.specs.declared.rule.Rule.{Rule}
use Rattle.sm_ruletext.specs.declared.statement.RuleKind.{RuleKind}
use Rattle.sm_ruletext.specs.declared.statement.RuleKind.TheVariants.{Allow, Neverallow, Dontaudit}
use Rattle.sm_ruletext.specs.declared.statement.Statement.{Statement}
use Rattle.sm_types.specs.Denoting.{types}
use Rattle.sm_rules.specs.Access.{covers}
use Rattle.sm_rules.specs.Keeping.{class_at, perm_at, rule_in}
use Rattle.sm_policy.specs.Policy.{Policy}
use Rattle.sm_questions.specs.Accesses.{is_left, perm_numbers}
use Rattle.sm_questions.specs.Shown.{shown_statement}
use Rattle.sm_questions.specs.declared.filtering.Filter.{Filter}
use Rattle.sm_questions.specs.declared.rule_filter.RuleFilter.{RuleFilter}

-- The filter leaves an access, and the rule covers it. The permission is given by its number.
unfoldable pub covers_left : List Statement → Filter → Rule → List ℕ → List ℕ → ℕ → Bool
covers_left policy accesses rule s t b =
    (is_left accesses.source s && is_left accesses.target t)
    && (has_bit accesses.perms.0 b && covers policy s t (class_at b) (perm_at b) rule)

-- The rule covers some access that the filter leaves.
unfoldable pub covers_some : List Statement → Filter → Rule → Bool
covers_some policy accesses rule =
    list_any (λ s. list_any (λ t. list_any (covers_left policy accesses rule s t) perm_numbers) (types policy))
    (types policy)

-- This is the kept rule of a statement, with its line, if it is one of the kind that is asked for. If none is, it may
-- be one of any kind.
abbrev pub asked_rule : Option RuleKind → Statement → Option (ℕ × Rule)
asked_rule (Some kind) statement = rule_in kind statement
asked_rule None statement =
    option_or (rule_in Allow statement) (option_or (rule_in Neverallow statement) (rule_in Dontaudit statement))

-- These are the kept rules of the kind that is asked for, each with its line, in the order of the source.
abbrev pub asked_rules : Option RuleKind → List Statement → List (ℕ × Rule)
asked_rules kind policy = filter_map (asked_rule kind) policy

-- These rules are listed: those of the kind that cover some access that the filter leaves.
unfoldable pub listed_rules : Policy → RuleFilter → List (ℕ × Rule)
listed_rules policy asked =
    filter (λ r. covers_some policy.statements asked.accesses r.1) (asked_rules asked.kind policy.statements)

-- These are the lines for the rules of a policy, whose source is the file of this path and text.
unfoldable pub rule_lines : List ℕ → List ℕ → Policy → RuleFilter → List ℕ
rule_lines path text policy asked = flat_map (λ r. shown_statement path text r.0) (listed_rules policy asked)
