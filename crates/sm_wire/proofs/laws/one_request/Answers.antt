use Rattle.sm_wire.proofs.SpellingLemmasLines.{one_request}
use Rattle.sm_wire.proofs.laws.one_request.Goals as goal

pub returns : goal.returns
returns c = one_request
