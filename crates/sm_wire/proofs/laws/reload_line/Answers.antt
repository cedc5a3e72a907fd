use Rattle.sm_wire.proofs.ItemLemmas.{reload_law}
use Rattle.sm_wire.proofs.laws.reload_line.Goals as goal

pub returns : goal.returns
returns c = reload_law
