use Rattle.std.proofs.Common.{◌≡◌, ◌∙◌, ap, subst, sym}
use Rattle.sm_history.specs.Books.{Book}
use Rattle.sm_status.specs.States.{state_of}
use Rattle.sm_door.specs.Locked.{Locked}
use Rattle.sm_door.proofs.locked_manager.LockedManager.status.Goals as goal

pub returns : goal.returns
returns g c =
    let sees = c.see.ensures in
    let is : c.in_ok-status.status ≡ state_of c.args.self.now.book.history =
    subst (λ (k : Locked). c.in_ok-status.status ≡ state_of k.book.history) c.self.view_is c.in_ok-status.ensures in (
      is,
      record {
        grows = sees.grows;
        entered = sees.entered;
        is = is ∙ ap (λ (b : Book). state_of b.history) (sym sees.is);
      },
    )
