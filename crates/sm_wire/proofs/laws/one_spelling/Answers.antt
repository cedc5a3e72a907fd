use Rattle.sm_wire.proofs.NumberLemmas.{one_number, its_spelling}
use Rattle.sm_wire.proofs.laws.one_spelling.Goals as goal

pub returns : goal.returns
returns c = λ max n text small. (one_number max n text small, λ h. rw (h.0) (its_spelling max n small h.1))
