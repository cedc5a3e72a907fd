-- Books that go on have no less, and a seal is no change.
use Rattle.std.proofs.Common.{◌≡◌, ◌≤◌, ℕ, true, refl, sym, subst, arith}
use Rattle.sm_history.specs.declared.by.By.{By}
use Rattle.sm_history.specs.Beginning.{BeginsWith, IsLonger, IsLater}
use Rattle.sm_history.specs.Books.{Book}
use Rattle.sm_history.specs.Histories.{effects_of, turn_of}
use Rattle.sm_history.specs.Verdict.{is_there}
use Rattle.sm_history.specs.Lawful.{IsLawful}
use Rattle.sm_history.proofs.Beginnings.{longer}
use Rattle.sm_history.proofs.Later.{later, later_lawful, sealed_turn}
use Rattle.sm_history.specs.BookOrder.{Begins, IsLawfulBook}
use Rattle.sm_history.specs.PromiseLaws.{IsNoChange}
use Rattle.sm_history.specs.Tokens.{Knows, Grows, turn}

pub no_less : (new old : Book) → IsLawfulBook old → Begins new old → IsLater new.history old.history
no_less new old lawful p =
    later old.places new.history old.history lawful (subst (λ (n : ℕ). BeginsWith n new.history old.history) p.places
    p.history)

pub stays_lawful : (new old : Book) → IsLawfulBook old → Begins new old → IsLawfulBook new
stays_lawful new old lawful p =
    later_lawful new.places new.history old.history
    (subst (λ (n : ℕ). IsLawful n old.history) (sym p.places) lawful) p.history

pub goes_on : (new old : Book) → Begins new old → new.history.number ≡ old.history.number
    → IsLonger new.history old.history
goes_on new old p same = longer new.places new.history old.history p.history same

pub token_goes_on : (old new : Knows) → IsLawfulBook old.seen → Grows old new
    → IsLater new.seen.history old.seen.history
    × (is_there (effects_of new.seen.history) old.by ≡ true → turn old ≤ turn new)
token_goes_on old new lawful g =
    let l = no_less new.seen old.seen lawful g.begins in
    (l, λ there. subst (λ (by : By). turn old ≤ turn_of new.seen.history by) (sym g.by) (l.turns old.by there))

pub no_change : (b : Book) → IsNoChange b.history
no_change b = record { length = omega arith; version = refl; turns = sealed_turn b.history }
