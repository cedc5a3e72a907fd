use Rattle.std.proofs.Common.{◌≡◌, ◌<◌, ◌≤◌, ℕ, length, refl}
use Rattle.sm_ruletext.specs.declared.statement.RuleKind.TheVariants.{Allow, Dontaudit}
use Rattle.sm_types.specs.Denoting.{types}
use Rattle.sm_rules.specs.Keeping.{FitsRule, rules_in}
use Rattle.sm_unused.specs.Unused as spec
use Rattle.sm_unused.proofs.Adding.{met_is}
use Rattle.sm_unused.proofs.RuleByRule.{kept_rule, needless_next, no_more, with_line}
use Rattle.sm_unused.proofs.unused_rules.unused_dontaudits.Goals as goal
use Rattle.sm_unused.proofs.unused_rules.unused_dontaudits.Goals.{then-not-meets+in_ok-push, else-not-meets}

pub loop-rule-preserved : goal.loop-rule-preserved
loop-rule-preserved c =
    let policy = c.args.policy.now.statements in
    let rules = c.rules.result.now in
    let i : ℕ = c.loop-rule.rule-index in
    let k = c.rule-item.result in
    let lt : i < length rules.silences = rw c.silences-rule-items.ensures.kept at c.loop-rule-test.true in
    let is = rw c.silences-rule-items.ensures.kept at c.rule-item.is in
    let r = kept_rule policy rules Dontaudit i c.rules.ensures k lt is in
    let fits : FitsRule (length (types policy)) k =
    rw (c.rules.ensures.count, ← c.rule-item.is) at (c.silences-rule-items.ensures.fits i k c.loop-rule-test.true) in
    let more = met_is policy (rules_in Allow policy) c.args.missing.now r.0 k c.requires.missing r.2 fits c.meets.result
    c.meets.ensures.none c.meets.ensures.some in
    let line : c.if-not-meets.lines.items ≡ with_line c.meets.result c.loop-rule.lines.items k.line =
    elim c.if-not-meets.branch [
      | then-not-meets+in_ok-push w ↦ rw (w.lines-is, w.in_ok-push.ensures.items, w.if-not-meets.true) refl
      | else-not-meets w ↦ rw (w.lines-is, w.if-not-meets.false) refl
    ] in
    needless_next policy (rules_in Dontaudit policy) i r.0 c.meets.result k.line c.loop-rule.lines.items
    c.if-not-meets.lines.items r.1 c.loop-rule.invariant more r.2.line line

pub returns : goal.returns
unfolding spec.unused_dontaudits
returns c =
    let rules = c.rules.result.now in
    let past : length rules.silences ≤ c.loop-rule.rule-index =
    rw c.silences-rule-items.ensures.kept at c.loop-rule-test.false in
    rw (no_more c.args.policy.now.statements rules Dontaudit c.loop-rule.rule-index c.rules.ensures past)
    at c.loop-rule.invariant
