-- The parts of a policy.
use Rattle.std.specs.Prelude.{◌≡◌}
use Rattle.sm_types.specs.Members.{IsOf}
use Rattle.sm_rules.specs.Keeping.{RulesOf}
use Rattle.sm_matrices.specs.Tables.{TablesOf}
use Rattle.sm_policy.specs.Counting.{counts_of}
use Rattle.sm_policy.specs.Labelling.{AreNumbered}
use Rattle.sm_policy.specs.Policy.{Policy, IsConsistent}
use Rattle.sm_policy.specs.declared.prepared.Parts.{Parts}

-- This is the policy of the parts.
abbrev pub policy_of : Parts → Policy
policy_of parts = record { statements = parts.statements.value.items; entries = parts.labels.contexts }

-- The types, rules, bytes, counts, labels and labels' numbers are those of a consistent policy.
pub record ArePartsOf (policy : Policy) (parts : Parts) : Type 0 where
  pub typed : IsOf policy.statements parts.types
  pub ruled : RulesOf policy.statements parts.types.symbols.types parts.rules
  pub tabled : TablesOf policy.statements parts.types.symbols.types parts.vectors
  pub sizes : parts.counts ≡ counts_of policy
  pub labels : parts.labels.contexts ≡ policy.entries
  pub numbered : AreNumbered parts.types.symbols.types policy.entries parts.labels.indexes.items
  pub consistent : IsConsistent policy
