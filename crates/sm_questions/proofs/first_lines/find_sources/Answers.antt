use Rattle.std.proofs.Common.{◌∙◌}
use Rattle.sm_questions.proofs.FirstLines.{line_next}
use Rattle.sm_questions.proofs.first_lines.find_sources.Goals as goal

pub loop-rule-preserved : goal.loop-rule-preserved
loop-rule-preserved c = record {
  room = c.keep_of_target.ensures.room ∙ c.loop-rule.invariant.room;
  found = λ b s low. c.keep_of_target.ensures.kept b s low
      ∙ line_next c.args.rules.now c.loop-rule.rule-index b s c.args.target c.rule-item.result c.loop-rule-test.true
      c.rule-item.is (c.loop-rule.invariant.found b s low);
}
