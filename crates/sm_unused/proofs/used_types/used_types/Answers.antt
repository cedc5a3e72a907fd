use Rattle.std.proofs.Common.{◌≡◌, arith}
use Rattle.sm_ruletext.specs.declared.statement.RuleKind.TheVariants.{Allow, Dontaudit}
use Rattle.sm_types.specs.Denoting.{types}
use Rattle.sm_rules.specs.Keeping.{rules_in}
use Rattle.sm_unused.proofs.Declared.{in_rules}
use Rattle.sm_unused.proofs.used_types.used_types.Goals as goal

pub returns-clause-used : goal.returns-clause-used
returns-clause-used c t lt =
    let policy = c.args.policy.now.statements in
    let rules = c.rules-rules.result.now in
    let allowing = in_rules policy (types policy) (rules_in Allow policy) rules.allows t
    (c.rules-rules.ensures.kept Allow) lt in
    let silencing = in_rules policy (types policy) (rules_in Dontaudit policy) rules.silences t
    (c.rules-rules.ensures.kept Dontaudit) lt in
    rw (
      c.add_labels.ensures.added t lt,
      c.union_with.ensures.joined t,
      c.permissive_types.ensures.kept,
      c.rules-rules.ensures.permissive.says t lt,
      c.add_rules-2.ensures.added t,
      c.silences.ensures.kept,
      c.add_rules.ensures.added t,
      c.allows.ensures.kept,
      c.in_ok-row.ensures.none t,
      allowing,
      silencing,
    )
    (grind arith)
