use Rattle.sm_wire.specs.Items.{scan_start}
use Rattle.sm_wire.proofs.ItemLemmas.{items_after-append, scan_after-append}
use Rattle.sm_wire.proofs.laws.any_cut.Goals as goal

pub returns-clause-items : goal.returns-clause-items
returns-clause-items c = λ kind xs ys. items_after-append (scan_start kind) xs ys

pub returns-clause-rest : goal.returns-clause-rest
returns-clause-rest c = λ kind xs ys. scan_after-append (scan_start kind) xs ys
