use Rattle.std.proofs.Common.{subst}
use Rattle.sm_history.specs.BookOrder.{Begins, IsLawfulBook}
use Rattle.sm_history.specs.Tokens.{Knows}
use Rattle.sm_door.proofs.admin.Admin.knows_opening.Goals as goal

pub returns-clause-lawful : goal.returns-clause-lawful
returns-clause-lawful g c = subst (λ (k : Knows). IsLawfulBook k.seen) c.self.view_is c.due.ensures.lawful

pub returns-clause-begins : goal.returns-clause-begins
returns-clause-begins g c =
    subst (λ (k : Knows). Begins k.seen g.J.Naming.opening) c.self.view_is c.due.ensures.begins
