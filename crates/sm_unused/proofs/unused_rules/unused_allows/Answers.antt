use Rattle.std.proofs.Common.{◌≡◌, ◌<◌, ◌≤◌, ℕ, length, refl, take}
use Rattle.sm_ruletext.specs.declared.statement.RuleKind.TheVariants.{Allow}
use Rattle.sm_types.specs.Denoting.{types}
use Rattle.sm_rules.specs.Keeping.{FitsRule, rules_in}
use Rattle.sm_unused.specs.Unused as spec
use Rattle.sm_unused.proofs.Adding.{met_is, missing_more}
use Rattle.sm_unused.proofs.RuleByRule.{below_next, kept_rule, no_more, take_one, with_line}
use Rattle.sm_unused.proofs.unused_rules.unused_allows.Goals as goal
use Rattle.sm_unused.proofs.unused_rules.unused_allows.Goals.{then-not-branch+in_ok-push, else-not-branch}

pub loop-rule-preserved : goal.loop-rule-preserved
loop-rule-preserved c =
    let policy = c.args.policy.now.statements in
    let rules = c.rules.result.now in
    let i : ℕ = c.loop-rule.rule-index in
    let k = c.rule-item.result in
    let lt : i < length rules.allows = rw c.allows-rule-items.ensures.kept at c.loop-rule-test.true in
    let is = rw c.allows-rule-items.ensures.kept at c.rule-item.is in
    let r = kept_rule policy rules Allow i c.rules.ensures k lt is in
    let fits : FitsRule (length (types policy)) k =
    rw (c.rules.ensures.count, ← c.rule-item.is) at (c.allows-rule-items.ensures.fits i k c.loop-rule-test.true) in
    let above = take i (rules_in Allow policy) in
    let more = met_is policy above c.loop-rule.missing r.0 k c.loop-rule.invariant.missing r.2 fits c.in_ok-take.field-0
    c.in_ok-take.ensures.none c.in_ok-take.ensures.some in
    let line : c.if-not-branch.lines.items ≡ with_line c.in_ok-take.field-0 c.loop-rule.lines.items k.line =
    elim c.if-not-branch.branch [
      | then-not-branch+in_ok-push w ↦ rw (w.lines-is, w.in_ok-push.ensures.items, w.if-not-branch.true) refl
      | else-not-branch w ↦ rw (w.lines-is, w.if-not-branch.false) refl
    ] in
    record {
      lines = below_next policy (rules_in Allow policy) i r.0 c.in_ok-take.field-0 k.line c.loop-rule.lines.items
          c.if-not-branch.lines.items r.1 c.loop-rule.invariant.lines more r.2.line line;
      missing = rw (take_one (rules_in Allow policy) i r.0 r.1) at (missing_more policy above c.loop-rule.missing r.0 k
          c.loop-rule.invariant.missing r.2 fits c.take.new.self c.in_ok-take.ensures.count c.in_ok-take.ensures.table
          c.in_ok-take.ensures.removed);
    }

pub returns-clause-lines : goal.returns-clause-lines
unfolding spec.unused_allows
returns-clause-lines c =
    let rules = c.rules.result.now in
    let past : length rules.allows ≤ c.loop-rule.rule-index =
    rw c.allows-rule-items.ensures.kept at c.loop-rule-test.false in
    rw (no_more c.args.policy.now.statements rules Allow c.loop-rule.rule-index c.rules.ensures past)
    at c.loop-rule.invariant.lines

pub returns-clause-missing : goal.returns-clause-missing
returns-clause-missing c =
    let rules = c.rules.result.now in
    let past : length rules.allows ≤ c.loop-rule.rule-index =
    rw c.allows-rule-items.ensures.kept at c.loop-rule-test.false in
    rw (no_more c.args.policy.now.statements rules Allow c.loop-rule.rule-index c.rules.ensures past)
    at c.loop-rule.invariant.missing
