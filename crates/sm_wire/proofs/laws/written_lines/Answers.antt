use Rattle.sm_wire.proofs.SpellingLemmasLines.{line_read, line_spelled, item_read, item_spelled}
use Rattle.sm_wire.proofs.SpellingLemmasLines.{others_malformed, malformed_others}
use Rattle.sm_wire.proofs.laws.written_lines.Goals as goal

pub returns-clause-requests : goal.returns-clause-requests
returns-clause-requests c = λ kind line r. (line_spelled kind line r, line_read kind line r)

pub returns-clause-items : goal.returns-clause-items
returns-clause-items c = λ kind line r. (item_spelled kind line r, item_read kind line r)

pub returns-clause-others : goal.returns-clause-others
returns-clause-others c = λ kind line. (malformed_others kind line, others_malformed kind line)
