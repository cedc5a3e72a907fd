use Rattle.std.proofs.Common.{◌≡◌, [], take}
use Rattle.sm_ruletext.specs.declared.statement.RuleKind.TheVariants.{Allow}
use Rattle.sm_rules.specs.Keeping.{rules_in}
use Rattle.sm_unused.specs.Missing.{AreMissing}
use Rattle.sm_unused.specs.Unused.{unused_below}
use Rattle.sm_unused.proofs.RuleByRule.{lines_of}
use Rattle.sm_unused.proofs.unused_rules.unused_allows.Given as goal

abbrev pub invariant-loop-rule : goal.invariant-loop-rule
invariant-loop-rule l = record {
  lines : l.lines.items
      ≡ lines_of (unused_below l.policy.statements [] (take l.rule-index (rules_in Allow l.policy.statements)));
  missing : AreMissing l.policy.statements (take l.rule-index (rules_in Allow l.policy.statements)) l.missing;
}
