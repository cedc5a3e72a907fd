use Rattle.std.proofs.Common.{subst}
use Rattle.std.specs.Arc.{arc_value}
use Rattle.sm_history.specs.BookOrder.{IsLawfulBook}
use Rattle.sm_door.proofs.Places.{admits}
use Rattle.sm_door.proofs.opening.enlist.Goals as goal

pub reader-requires : goal.reader-requires
reader-requires g c = admits g.J.Naming.opening (λ s. arc_value s.shared_view)

pub new-requires-clause-lawful : goal.new-requires-clause-lawful
new-requires-clause-lawful g c = subst IsLawfulBook c.requires c.lawful.ensures.lawful
