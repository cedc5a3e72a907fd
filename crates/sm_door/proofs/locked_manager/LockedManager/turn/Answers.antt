use Rattle.std.proofs.Common.{subst}
use Rattle.sm_history.specs.BookOrder.{IsLawfulBook}
use Rattle.sm_door.specs.Locked.{Locked}
use Rattle.sm_door.proofs.locked_manager.LockedManager.turn.Goals as goal

pub returns-clause-lawful : goal.returns-clause-lawful
returns-clause-lawful g c = subst (λ (l : Locked). IsLawfulBook l.book) c.self.view_is c.lawful.ensures.lawful
