use Rattle.std.proofs.Common.{◌∙◌}
use Rattle.sm_questions.proofs.FirstLines.{line_at}
use Rattle.sm_questions.proofs.first_lines.find_lines.Goals as goal

pub loop-index-preserved : goal.loop-index-preserved
loop-index-preserved c = record {
  room = c.keep_of_source.ensures.room ∙ c.loop-index.invariant.room;
  found = λ b t low. c.keep_of_source.ensures.kept b t low
      ∙ line_at c.args.rules.now c.args.near.now c.loop-index.index-index b c.args.source t c.index-rules-index.result
      c.loop-index-test.true (c.requires.near c.loop-index.index-index 0 c.loop-index-test.true)
      c.index-rules-index.is (c.loop-index.invariant.found b t low);
}
