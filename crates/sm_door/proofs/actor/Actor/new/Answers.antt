use Rattle.std.proofs.Common.{◌≡◌, subst, sym}
use Rattle.sm_history.specs.Histories.{turn_of}
use Rattle.sm_history.specs.BookOrder.{Begins, IsLawfulBook}
use Rattle.sm_history.proofs.BookOrder.{book_itself}
use Rattle.sm_door.specs.declared.published.ReaderKnowledge.{ReaderKnowledge}
use Rattle.sm_door.proofs.actor.Actor.new.Goals as goal

pub invariant_of-result : goal.invariant_of-result
invariant_of-result g c =
    subst (λ (k : ReaderKnowledge). (c.args.turn ≡ turn_of k.seen.history c.args.by) × IsLawfulBook k.seen
    × Begins k.seen g.J.Naming.opening)
    (sym c.requires.new) (c.requires.turn, c.requires.lawful, book_itself g.J.Naming.opening)
