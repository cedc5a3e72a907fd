use Rattle.sm_contexts.proofs.Cuts.{length-lines}
use Rattle.sm_contexts.proofs.lines.Lines.new.Goals as goal

pub returns-clause-few : goal.returns-clause-few
returns-clause-few c = length-lines c.args.text.now
