use Rattle.sm_wire.proofs.ItemLemmas.{long_law}
use Rattle.sm_wire.proofs.laws.long_line.Goals as goal

pub returns : goal.returns
returns c = long_law
