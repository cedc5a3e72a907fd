-- What the laws of violations speak of.
use Rattle.std.specs.Prelude.{◌≡◌, ℕ, true, ◌&&◌, List, Some, slice_get}
use Rattle.sm_ruletext.specs.declared.rule.Rule.{Rule}
use Rattle.sm_ruletext.specs.declared.statement.RuleKind.TheVariants.{Allow, Neverallow}
use Rattle.sm_ruletext.specs.declared.statement.Statement.{Statement}
use Rattle.sm_rules.specs.Access.{covers}
use Rattle.sm_rules.specs.Keeping.{rules_in}
use Rattle.sm_policy.specs.declared.violation.Violation.{Violation}

-- An item is at some index of a list.
abbrev pub IsIn : {A : Type 0} → A → List A → Type 0
IsIn x xs = (i : ℕ) × (slice_get xs i ≡ Some x)

-- A neverallow rule and an allow rule of the statements have the lines of the violation, and both cover its access.
pub record IsTrueOf (policy : List Statement) (v : Violation) : Type 0 where
  pub never : ℕ × Rule
  pub allow : ℕ × Rule
  pub is_never : IsIn never (rules_in Neverallow policy)
  pub is_allow : IsIn allow (rules_in Allow policy)
  pub never_line : v.never_line ≡ never.0
  pub allow_line : v.allow_line ≡ allow.0
  pub both : (covers policy v.source v.target v.class v.perm allow.1
      && covers policy v.source v.target v.class v.perm never.1) ≡ true
