use Rattle.sm_wire.proofs.ItemLemmas.{line_law}
use Rattle.sm_wire.proofs.laws.first_line.Goals as goal

pub returns : goal.returns
returns c = line_law
