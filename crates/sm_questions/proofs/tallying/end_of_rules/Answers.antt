use Rattle.std.proofs.Common.{◌∙◌, ◌+◌, ap, sym, arith}
use Rattle.std.specs.Prelude.{max}
use Rattle.sm_questions.proofs.Tallied.{kept_next}
use Rattle.sm_questions.proofs.tallying.end_of_rules.Goals as goal

pub loop-rule-preserved : goal.loop-rule-preserved
loop-rule-preserved c = record {
  end = c.greater-end.ensures ∙ ap (λ n. max n (c.rule-item.result.line + 1)) c.loop-rule.invariant.end
      ∙ sym (kept_next c.args.rules.now c.loop-rule.rule-index c.rule-item.result c.loop-rule-test.true
      c.rule-item.is);
  small = omega (arith, c.greater-end.ensures, c.loop-rule.invariant.small);
}
