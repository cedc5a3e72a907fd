use Rattle.std.proofs.Common.{◌∙◌, sym, subst}
use Rattle.std.specs.List.{All}
use Rattle.sm_history.specs.Books.{Book}
use Rattle.sm_history.specs.Records.{IsTrueOnce}
use Rattle.sm_door.proofs.locked_manager.LockedManager.denials.Goals as goal

pub returns-then-meet : goal.returns-then-meet
returns-then-meet g c = (
  c.in-Ok.ensures.all,
  record {
    grows = c.meet.ensures.sees.grows;
    entered = c.meet.ensures.sees.entered;
    same_turn = sym c.meet.ensures.turn ∙ c.if-meet.true;
    few = c.in-Ok.ensures.few;
    true_records = subst (λ (b : Book). All (IsTrueOnce b.places b.history) c.in-Ok.records.items)
        (sym c.meet.ensures.sees.is) c.in-Ok.ensures.true_records;
  },
)
