use Rattle.std.proofs.Common.{◌≡◌, ◌∙◌, length, true, sym}
use Rattle.sm_ruletext.specs.Kept.{is_kept}
use Rattle.sm_types.specs.Denoting.{types}
use Rattle.sm_rules.specs.Keeping.{FitsRule}
use Rattle.sm_questions.specs.Covering.{is_asked}
use Rattle.sm_questions.proofs.Covered.{meets_is}
use Rattle.sm_questions.proofs.Passing.{lists_there, says_next}
use Rattle.sm_questions.proofs.listed.is_listed.Goals as goal

pub returns-in-Some : goal.returns-in-Some
returns-in-Some c =
    let policy = c.args.policy.now in
    let st = c.args.statement.now in
    let kind = c.in-Rule.kind in
    let rule = c.in-Rule.rule in
    let it = c.in-Some.kept.now in
    let kept : is_kept rule ≡ true = sym c.is_kept.ensures ∙ c.if-not-is_kept.false in
    let asked : is_asked c.args.filter.now.kind kind ≡ true = sym c.is_asked.ensures ∙ c.if-not-is_asked.false in
    let k = says_next policy c.rules-rules.result.now c.args.passed.now st kind rule c.rules-rules.ensures c.requires.next
    c.in-Rule.is kept in
    let found = rw (c.in-Some.is, k.1) at c.next.ensures.next in
    let same : it ≡ k.0 = cc found in
    let fits : FitsRule (length (types policy.statements)) it =
    rw c.rules-rules.ensures.count at (rw c.in-Some.is at c.next.ensures.fits) in
    rw (lists_there policy c.args.filter.now st kind rule c.in-Rule.is kept asked)
    (meets_is policy c.args.filter.now.accesses c.args.left.now (st.line, rule) it c.requires.left (rw same k.2) fits
    c.meets.result c.meets.ensures.none c.meets.ensures.some)

pub returns-in-None : goal.returns-in-None
returns-in-None c =
    let kept : is_kept c.in-Rule.rule ≡ true = sym c.is_kept.ensures ∙ c.if-not-is_kept.false in
    let k = says_next c.args.policy.now c.rules-rules.result.now c.args.passed.now c.args.statement.now c.in-Rule.kind
    c.in-Rule.rule c.rules-rules.ensures c.requires.next c.in-Rule.is kept in
    let none = rw (c.in-None.is, k.1) at c.next.ensures.next in absurd (cc none)
