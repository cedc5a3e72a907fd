use Rattle.std.proofs.Common.{subst, sym}
use Rattle.sm_history.specs.Books.{Book}
use Rattle.sm_history.specs.BookOrder.{Begins}
use Rattle.sm_history.proofs.BookOrder.{book_before}
use Rattle.sm_door.proofs.locked_manager.show_ready.Goals as goal

pub publish-requires : goal.publish-requires
publish-requires g c =
    let b = c.args.manager.now.book in
    subst (λ (z : Book × Book). Begins z.0 z.1)
    (λ i. (sym c.in_ok-view.ensures i, sym c.requires.shown i)) (book_before b c.args.ready.now.entry
    (c.requires.ready.change.done, c.requires.ready.change.sound))
