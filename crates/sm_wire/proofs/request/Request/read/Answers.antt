use Rattle.sm_wire.proofs.SpellingLemmasLines.{read_spelled}
use Rattle.sm_wire.proofs.request.Request.read.Goals as goal

pub returns-clause-spelled : goal.returns-clause-spelled
returns-clause-spelled c = read_spelled c.args.kind c.args.line.now c.request.result c.request.ensures
