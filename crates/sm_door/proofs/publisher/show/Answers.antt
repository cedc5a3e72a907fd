use Rattle.std.proofs.Common.{◌≡◌, sym, ap, ◌∙◌, subst}
use Rattle.std.specs.Arc.{arc_value}
use Rattle.std.proofs.lemmas.Result.{MatchResult-weaker}
use Rattle.sm_history.specs.Books.{Book}
use Rattle.sm_history.specs.BookOrder.{Begins}
use Rattle.sm_door.proofs.Places.{shows, last_shown}
use Rattle.sm_door.proofs.publisher.show.Goals as goal

pub publish_as-requires : goal.publish_as-requires
publish_as-requires g c next is =
    let was = ap (λ d. arc_value d.shown.value.shared_view) c.append.ensures.desk in
    let last : arc_value next.shared_view ≡ arc_value c.args.next =
    last_shown arc_value _ _ _ c.args.next _ c.in-Ok.ensures.pending is in
    shows g.J.Naming.opening (λ s. arc_value s.shared_view) _ _ c.append.new.self.desk.shown.value next
    (subst (λ (z : Book × Book). Begins z.0 z.1) (λ i. (sym last i, sym was i)) c.requires)

pub returns-in-Ok : goal.returns-in-Ok
returns-in-Ok g c =
    MatchResult-weaker c.publish_as.result.1 c.publish_as.ensures.values
    (λ x h. last_shown arc_value _ _ _ c.args.next _ c.in-Ok.ensures.pending h.0)
    (λ y h. h.0 ∙ ap (λ d. d.shown.value) c.append.ensures.desk)
