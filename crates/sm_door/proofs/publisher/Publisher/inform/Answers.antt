use Rattle.std.proofs.Common.{rules, ◌≡◌, ap, ◌∙◌, sym, arith}
use Rattle.std.specs.Arc.{arc_value}
use Rattle.left_right.specs.Sides.{view as place_view}
use Rattle.sm_history.specs.BookOrder.{Begins}
use Rattle.sm_history.proofs.BookOrder.{book_itself, book_through}
use Rattle.sm_door.specs.declared.published.ReaderKnowledge.{ReaderKnowledge}
use Rattle.sm_door.proofs.Places.{enters}
use Rattle.sm_door.proofs.publisher.Publisher.inform.Goals as goal

pub loop-init : goal.loop-init
loop-init g c = (book_itself _, omega arith)

pub enter_as-requires : goal.enter_as-requires
enter_as-requires g c x = enters g.J.Naming.opening (λ s. arc_value s.shared_view) _ _ x

pub returns-then-found-clause-begins : goal.returns-then-found-clause-begins
returns-then-found-clause-begins g c =
    let ids = c.is-found.ensures c.if-found.true in
    let same : c.deref.result.now ≡ c.shared_view.result.now =
    sym c.behind-get.view_is ∙ sym c.behind-get.invariant ∙ ids ∙ c.behind-self.invariant ∙ c.behind-self.view_is in
    let p : Begins c.args.self.now (place_view c.loop.reader.place).seen =
    search (rules, c.in-Ok.ensures, c.get.ensures, c.deref.ensures, c.shared_view.ensures, same) in
    book_through _ _ _ p c.loop.invariant.0

pub returns-then-found-clause-entered : goal.returns-then-found-clause-entered
returns-then-found-clause-entered g c =
    let one = ap (λ (k : ReaderKnowledge). k.reads) (c.leave-reader.ensures.1 ∙ c.in-Ok.ensures.1.1) in
    let more = c.loop.invariant.1 in
    omega (arith, one, more)

pub loop-preserved-else-found : goal.loop-preserved-else-found
loop-preserved-else-found g c =
    let p : Begins (place_view c.leave-reader.result.place).seen (place_view c.loop.reader.place).seen =
    search (rules, c.leave-reader.ensures, c.in-Ok.ensures, c.get.ensures) in
    let one = ap (λ (k : ReaderKnowledge). k.reads) (c.leave-reader.ensures.1 ∙ c.in-Ok.ensures.1.1) in
    let more = c.loop.invariant.1 in
    (book_through _ _ _ p c.loop.invariant.0, omega (arith, one, more))
