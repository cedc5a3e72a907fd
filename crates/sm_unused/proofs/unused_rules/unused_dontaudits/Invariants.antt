use Rattle.std.proofs.Common.{◌≡◌, take}
use Rattle.std.specs.Prelude.{filter}
use Rattle.sm_ruletext.specs.declared.statement.RuleKind.TheVariants.{Dontaudit}
use Rattle.sm_rules.specs.Keeping.{rules_in}
use Rattle.sm_unused.proofs.RuleByRule.{is_needless, lines_of}
use Rattle.sm_unused.proofs.unused_rules.unused_dontaudits.Given as goal

abbrev pub invariant-loop-rule : goal.invariant-loop-rule
invariant-loop-rule l = l.lines.items
    ≡ lines_of (filter (is_needless l.policy.statements)
    (take l.rule-index (rules_in Dontaudit l.policy.statements)))
