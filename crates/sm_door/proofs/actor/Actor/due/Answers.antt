use Rattle.std.proofs.Common.{subst}
use Rattle.sm_history.specs.BookOrder.{Begins, IsLawfulBook}
use Rattle.sm_history.specs.Tokens.{Knows}
use Rattle.sm_door.proofs.actor.Actor.due.Goals as goal

pub returns-clause-lawful : goal.returns-clause-lawful
returns-clause-lawful g c =
    let kept = rw c.in-Some.is at c.self.invariant in
    let view = rw c.in-Some.is at c.self.view_is in
    subst (λ (k : Knows). IsLawfulBook k.seen) view kept.1

pub returns-clause-begins : goal.returns-clause-begins
returns-clause-begins g c =
    let kept = rw c.in-Some.is at c.self.invariant in
    let view = rw c.in-Some.is at c.self.view_is in
    subst (λ (k : Knows). Begins k.seen g.J.Naming.opening) view kept.2
