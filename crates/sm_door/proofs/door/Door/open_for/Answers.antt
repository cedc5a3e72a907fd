use Rattle.std.proofs.Common.{◌≡◌, subst, inl, inr, ⊎_elim}
use Rattle.sm_history.specs.Books.{Book}
use Rattle.sm_door.specs.declared.opening.TheConstants.{ADMINS}
use Rattle.sm_door.specs.Opening.{new_seats, new_admins}
use Rattle.sm_door.proofs.door.Door.open_for.Goals as goal

pub returns-in-Ok-tokens_of-clause-opened : goal.returns-in-Ok-tokens_of-clause-opened
returns-in-Ok-tokens_of-clause-opened g c =
    let t = c.in-Ok-tokens_of.ensures.tokens in (
      c.in_ok-manager.ensures.opened.0,
      subst (λ (b : Book). c.in-Ok-tokens_of.seats.items ≡ new_seats b c.args.clients) c.requires.opening t.0,
      subst (λ (b : Book). c.in-Ok-tokens_of.admins.items ≡ new_admins b ADMINS) c.requires.opening t.1,
    )

pub returns-in-Err-clause-refused : goal.returns-in-Err-clause-refused
returns-in-Err-clause-refused g c = ⊎_elim (λ m. inl m)
    (λ s. inr (inl (c.in_ok-manager.ensures.opened.0, s))) c.in-Err.ensures.refused
