use Rattle.std.proofs.Common.{rules, ◌≡◌, ◌∙◌, Some, ap, subst, sym, arith}
use Rattle.left_right.specs.Sides.{view as place_view}
use Rattle.sm_history.specs.Books.{Book}
use Rattle.sm_history.specs.Histories.{turn_of}
use Rattle.sm_history.specs.BookOrder.{Begins, IsLawfulBook}
use Rattle.sm_history.specs.Tokens.{Knows}
use Rattle.sm_history.proofs.BookOrder.{book_through}
use Rattle.sm_door.specs.Locked.{Locked}
use Rattle.sm_door.proofs.actor.Actor.see.Goals as goal

pub invariant_of-self : goal.invariant_of-self
invariant_of-self g c =
    let shown = c.locked.invariant ∙ ap (λ (l : Locked). l.book) c.locked.view_is in
    let had : c.self.inside.reader ≡ Some c.unwrap-reader.result =
    search (rules, c.take.ensures, c.unwrap-reader.ensures)
    in
    let kept = rw had at c.self.invariant in
    let begins =
    subst (λ (b : Book). Begins b (place_view c.unwrap-reader.result.place).seen) (sym c.inform-reader.ensures.seen)
    c.inform-reader.ensures.begins
    in
    let now =
    subst (λ (b : Book). (c.turn-self-inside.result ≡ turn_of b.history c.self.inside.by) × IsLawfulBook b)
    (sym (c.inform-reader.ensures.seen ∙ shown)) (c.turn-self-inside.ensures.turn, c.turn-self-inside.ensures.lawful)
    in (
      now.0,
      now.1,
      book_through (place_view c.inform-reader.result.place).seen (place_view c.unwrap-reader.result.place).seen
          g.J.Naming.opening begins kept.2,
    )

pub returns : goal.returns
returns g c =
    let seen = c.inform-reader.ensures.seen ∙ (c.locked.invariant ∙ ap (λ (l : Locked). l.book) c.locked.view_is) in
    let had : c.self.inside.reader ≡ Some c.unwrap-reader.result =
    search (rules, c.take.ensures, c.unwrap-reader.ensures)
    in
    let view = rw had at c.self.view_is in
    let was : (place_view c.unwrap-reader.result.place).seen ≡ c.args.self.now.seen =
    ap (λ (k : Knows). k.seen) view in
    let before : (place_view c.unwrap-reader.result.place).reads ≡ c.args.self.now.reads =
    ap (λ (k : Knows). k.reads) view in
    let entered = c.inform-reader.ensures.entered in
    record {
      grows = record {
        by = ap (λ (k : Knows). k.by) c.self.view_is;
        lawful = subst IsLawfulBook (sym seen) c.turn-self-inside.ensures.lawful;
        begins =
            subst (λ (z : Book × Book). Begins z.0 z.1) (λ i. (sym c.inform-reader.ensures.seen i, was i))
            c.inform-reader.ensures.begins;
        reads = omega (arith, entered, before);
      };
      entered = omega (arith, entered, before);
      is = seen;
    }
