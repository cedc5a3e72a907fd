-- All violations of a policy source.
use Rattle.std.specs.Prelude.{ℕ, List, [], ◌∷◌, ◌++◌, drop, Ok}
use Rattle.std.specs.List.{filter_map, flat_map}
use Rattle.sm_values.specs.Reading.{◌>>=◌}
use Rattle.sm_ruletext.specs.declared.rule.Rule.{Rule}
use Rattle.sm_ruletext.specs.declared.statement.RuleKind.TheVariants.{Allow, Neverallow}
use Rattle.sm_ruletext.specs.declared.statement.Statement.{Statement}
use Rattle.sm_types.specs.Declaring.{symbols_of}
use Rattle.sm_rules.specs.Faults.{first_fault}
use Rattle.sm_rules.specs.Keeping.{rules_in}
use Rattle.sm_policy.specs.Preparing.{Step, of_access, of_types, refused_by, rules_of, through}
use Rattle.sm_policy.specs.Violating.{first_clash}
use Rattle.sm_policy.specs.declared.violation.Violation.{Violation}

-- These are the violations of a neverallow rule: one by each of these allow rules that breaks it, with the first access
-- that the two rules have in common.
abbrev pub violations_by : List Statement → ℕ × Rule → List (ℕ × Rule) → List Violation
violations_by policy never allows = filter_map (first_clash policy never) allows

-- These are the violations of a neverallow rule by all allow rules.
unfoldable pub violations_of : List Statement → ℕ × Rule → List Violation
violations_of policy never = violations_by policy never (rules_in Allow policy)

-- These are all violations, in the order of the neverallow rules, and for each of these in that of the allow rules.
unfoldable pub violations : List Statement → List Violation
violations policy = flat_map (violations_of policy) (rules_in Neverallow policy)

-- These are the violations of the first of these neverallow rules by these allow rules, and those of the other ones by
-- all allow rules.
abbrev pub violations_from : List Statement → List (ℕ × Rule) → List (ℕ × Rule) → List Violation
violations_from policy [] allows = []
violations_from policy (never ∷ nevers) allows =
    violations_by policy never allows ++ flat_map (violations_of policy) nevers

-- These are the violations that are left, if those of the first neverallow rules are taken, and of the next one those
-- by the first allow rules.
unfoldable pub violations_left : List Statement → ℕ → ℕ → List Violation
violations_left policy never allow =
    violations_from policy (drop never (rules_in Neverallow policy)) (drop allow (rules_in Allow policy))

-- These are the violations in a policy source, or why its rules can't be read.
unfoldable pub violations_in : List ℕ → Step (List Violation)
violations_in text = do
  statements ← rules_of text
  symbols ← through of_types (symbols_of statements)
  accepted ← refused_by of_access (first_fault statements) statements
  Ok (violations statements)
