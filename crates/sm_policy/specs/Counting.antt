-- The counts of a policy.
use Rattle.std.specs.Prelude.{ℕ, Bool, true, false, List, length, count_by}
use Rattle.sm_ruletext.specs.declared.statement.Statement.{Statement}
use Rattle.sm_ruletext.specs.declared.statement.RuleKind.TheVariants.{Allow, Neverallow}
use Rattle.sm_ruletext.specs.declared.statement.What.{What, TheVariants.Rule}
use Rattle.sm_types.specs.Denoting.{types, attributes}
use Rattle.sm_contexts.specs.Reading.{Entry}
use Rattle.sm_policy.specs.declared.counts.Counts.{Counts}
use Rattle.sm_policy.specs.Policy.{Policy}

-- A statement is an allow or a neverallow rule.
abbrev pub is_counted : What → Bool
is_counted (Rule Allow r) = true
is_counted (Rule Neverallow r) = true
is_counted content = false

-- This is the number of allow and neverallow rules.
abbrev pub rule_count : List Statement → ℕ
rule_count statements = count_by (λ s. is_counted s.what) statements

-- These are the counts of statements and entries.
abbrev pub counted : List Statement → List Entry → Counts
counted statements entries = record {
  types = length (types statements);
  attributes = length (attributes statements);
  rules = rule_count statements;
  labels = length entries;
}

-- A policy's counts are those of declared types and attributes, of kept allow and neverallow rules, and of distinct
-- keys.
abbrev pub counts_of : Policy → Counts
counts_of policy = counted policy.statements policy.entries
