use Rattle.std.proofs.Common.{subst}
use Rattle.sm_history.specs.BookOrder.{IsLawfulBook}
use Rattle.sm_door.proofs.shared_view.SharedView.turn.Goals as goal

pub returns-clause-lawful : goal.returns-clause-lawful
returns-clause-lawful g c = subst IsLawfulBook c.self.view_is c.lawful.ensures
