use Rattle.std.proofs.Common.{rules, ◌≡◌, ◌∙◌, ◌+◌, ℕ, Some, ap, subst, sym, arith}
use Rattle.std.specs.Arc.{arc_value}
use Rattle.left_right.specs.Sides.{view as place_view}
use Rattle.sm_history.specs.declared.by.By.{By}
use Rattle.sm_history.specs.Books.{Book}
use Rattle.sm_history.specs.Histories.{turn_of}
use Rattle.sm_door.specs.Logged.{LooksLogged}
use Rattle.sm_history.specs.BookOrder.{Begins, IsLawfulBook}
use Rattle.sm_history.specs.Tokens.{Knows, turn}
use Rattle.sm_history.proofs.BookOrder.{book_through}
use Rattle.sm_door.specs.declared.published.ReaderKnowledge.{ReaderKnowledge}
use Rattle.sm_door.proofs.Places.{enters}
use Rattle.sm_door.proofs.actor.Actor.read_view.Goals as goal

pub enter_as-requires : goal.enter_as-requires
enter_as-requires g c x = enters g.J.Naming.opening (λ s. arc_value s.shared_view) _ _ x

-- What it sees now is the shared view that it found.
pub invariant_of-self : goal.invariant_of-self
invariant_of-self g c =
    let shared_view = arc_value c.in-Ok.reading.part.value.shared_view in
    let found : c.deref-in-Ok.result.now ≡ shared_view = search (rules, c.get.ensures, c.deref-in-Ok.ensures) in
    let now = c.leave.ensures.1 ∙ c.in-Ok.ensures.1.1 in
    let had : c.self.inside.reader ≡ Some c.unwrap.result = search (rules, c.take.ensures, c.unwrap.ensures) in
    let kept = rw had at c.self.invariant in
    let begins = book_through shared_view (place_view c.unwrap.result.place).seen g.J.Naming.opening
    c.in-Ok.ensures.1.0 kept.2 in
    subst (λ (b : Book). (c.turn-self-inside.result ≡ turn_of b.history c.self.inside.by) × IsLawfulBook b
    × Begins b g.J.Naming.opening)
    (found ∙ ap (λ (k : ReaderKnowledge). k.seen) (sym now)) (
      c.turn-self-inside.ensures.turn,
      c.turn-self-inside.ensures.lawful,
      subst (λ (b : Book). Begins b g.J.Naming.opening) (sym found) begins,
    )

pub returns-in-Ok : goal.returns-in-Ok
returns-in-Ok g c =
    let shared_view = arc_value c.in-Ok.reading.part.value.shared_view in
    let found : c.deref-in-Ok.result.now ≡ shared_view = search (rules, c.get.ensures, c.deref-in-Ok.ensures) in
    let looked : c.deref.result.now ≡ shared_view = search (rules, c.get.ensures, c.deref.ensures) in
    let now = c.leave.ensures.1 ∙ c.in-Ok.ensures.1.1 in
    let seen : shared_view ≡ (place_view c.leave.result.place).seen = ap (λ (k : ReaderKnowledge). k.seen) (sym now) in
    let had : c.self.inside.reader ≡ Some c.unwrap.result = search (rules, c.take.ensures, c.unwrap.ensures) in
    let view = rw had at c.self.view_is in
    let was : (place_view c.unwrap.result.place).seen ≡ c.args.self.now.seen = ap (λ (k : Knows). k.seen) view in
    let by : c.self.inside.by ≡ c.args.self.now.by = ap (λ (k : Knows). k.by) c.self.view_is in
    let kept = rw had at c.self.invariant in
    let due : c.self.inside.turn ≡ turn c.args.self.now = kept.0 ∙ ap turn view in
    let one : (place_view c.leave.result.place).reads ≡ c.args.self.now.reads + 1 =
    ap (λ (k : ReaderKnowledge). k.reads) now ∙ ap (λ (k : Knows). k.reads + 1) view in (
      record {
        by = by;
        lawful = subst IsLawfulBook (found ∙ seen) c.turn-self-inside.ensures.lawful;
        begins = subst (λ (z : Book × Book). Begins z.0 z.1) (λ i. (seen i, was i)) c.in-Ok.ensures.1.0;
        reads = omega (arith, one);
      },
      one,
      subst (λ (z : Book × By × ℕ). LooksLogged z.0 z.1 z.2 c.args.query c.look_in_turn-answered.result.0
          c.look_in_turn-answered.result.1.items)
          (λ i. ((looked ∙ seen) i, by i, due i)) c.look_in_turn-answered.ensures,
    )

pub invariant_of-self-in-Err : goal.invariant_of-self-in-Err
invariant_of-self-in-Err g c =
    let had : c.self.inside.reader ≡ Some c.unwrap.result = search (rules, c.take.ensures, c.unwrap.ensures) in
    let kept = rw had at c.self.invariant in
    subst (λ (k : ReaderKnowledge). (c.self.inside.turn ≡ turn_of k.seen.history c.self.inside.by)
    × IsLawfulBook k.seen × Begins k.seen g.J.Naming.opening)
    (sym c.in-Err.ensures.1) kept

pub invariant_of-self-in-Err-2 : goal.invariant_of-self-in-Err-2
invariant_of-self-in-Err-2 g c =
    let had : c.self.inside.reader ≡ Some c.unwrap.result = search (rules, c.take.ensures, c.unwrap.ensures) in
    let kept = rw had at c.self.invariant in
    subst (λ (k : ReaderKnowledge). (c.self.inside.turn ≡ turn_of k.seen.history c.self.inside.by)
    × IsLawfulBook k.seen × Begins k.seen g.J.Naming.opening)
    (sym c.in-Err.ensures.1) kept
