-- Policies that are refused for a neverallow rule.
use Rattle.std.specs.Prelude.{◌≡◌, ℕ, true, List, Ok}
use Rattle.sm_ruletext.specs.declared.statement.Statement.{Statement}
use Rattle.sm_rules.specs.Access.{written, forbidden, IsConsistent}
use Rattle.sm_policy.specs.Preparing.{rules_of}
use Rattle.sm_policy.specs.declared.violation.Violation.{Violation}
use Rattle.sm_policy.specs.declared.fault.PolicyFault.{PolicyFault, TheVariants.Neverallow}

-- A claim on the violation, if the fault is a broken neverallow rule.
abbrev pub IfNeverallow : PolicyFault → (Violation → Type 0) → Type 0
IfNeverallow (Neverallow v) P = P v
IfNeverallow e P = Unit {0}

-- What the violation names is both allowed and forbidden, so the statements aren't consistent.
pub record IsBroken (statements : List Statement) (v : Violation) : Type 0 where
  pub allowed : written statements v.source v.target v.class v.perm ≡ true
  pub refused : forbidden statements v.source v.target v.class v.perm ≡ true
  pub inconsistent : IsConsistent statements → ⊥

-- The policy source has statements that are broken so.
pub record IsBrokenText (text : List ℕ) (v : Violation) : Type 0 where
  pub statements : List Statement
  pub read : rules_of text ≡ Ok statements
  pub broken : IsBroken statements v
