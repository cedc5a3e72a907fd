use Rattle.std.proofs.Common.{◌≡◌, ◌<◌, ◌≤◌, ◌∙◌, length, sym, arith}
use Rattle.sm_violations.proofs.Steps.{at_end, step_none, step_some, there_is}
use Rattle.sm_violations.proofs.violations.next_from.Goals as goal

pub returns-in-Some-clause-some : goal.returns-in-Some-clause-some
returns-in-Some-clause-some c policy names is =
    let rules = c.args.rules.now in
    let inside : c.loop-rule.rule < length rules.neverallows =
    rw c.neverallows-rule-end.ensures.kept at c.loop-rule-test.true in
    let k = there_is rules.neverallows c.loop-rule.rule inside in
    sym (c.loop-rule.invariant policy names is)
    ∙ step_some policy names rules is c.loop-rule.rule c.loop-rule.start k.0 c.in-Some.found k.1
    (c.in-Some.ensures.some k.0 k.1)

pub loop-rule-preserved : goal.loop-rule-preserved
loop-rule-preserved c policy names is =
    let rules = c.args.rules.now in
    let inside : c.loop-rule.rule < length rules.neverallows =
    rw c.neverallows-rule-end.ensures.kept at c.loop-rule-test.true in
    let k = there_is rules.neverallows c.loop-rule.rule inside in
    sym (step_none policy names rules is c.loop-rule.rule c.loop-rule.start k.0 k.1 (c.in_default.ensures.none k.0 k.1))
    ∙ c.loop-rule.invariant policy names is

pub returns-clause-none : goal.returns-clause-none
returns-clause-none c policy names is =
    let rules = c.args.rules.now in
    let past : length rules.neverallows ≤ c.loop-rule.rule =
    rw c.neverallows-rule-end.ensures.kept at c.loop-rule-test.false in
    sym (c.loop-rule.invariant policy names is) ∙ at_end policy names rules is c.loop-rule.rule c.loop-rule.start past
