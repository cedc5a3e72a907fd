-- What changes hands, where a judged event has made sure that it may.
use Rattle.std.proofs.Common.{◌≡◌, ℕ, ◌-◌, ◌<◌, true, List, [], Option, Some, None, ap, sym, ◌∙◌, subst, length, arith}
use Rattle.std.specs.Prelude.{nat_lt, MatchOption}
use Rattle.std.proofs.lemmas.Bool.{true≢false}
use Rattle.std.proofs.lemmas.Bool.Decides.{nat_tests}
use Rattle.sm_history.specs.declared.delivery.Delivery.{Delivery}

pub has_room : (room n : ℕ) → room ≡ 256 - n → nat_lt n 256 ≡ true → 0 < room
has_room room n e lt = grind (arith, nat_tests)

pub was_taken : {X : Type 0} (o : Option X) (xs : List Delivery) (P Q : Type 0) (E : X → Type 0) →
    nat_lt 0 (length xs) ≡ true
    → MatchOption o ((xs ≡ []) × P) (λ x. E x × Q) → Q
was_taken None xs P Q E some m =
    absurd (true≢false (sym some ∙ ap (λ (ys : List Delivery). nat_lt 0 (length ys)) m.0))
was_taken (Some x) xs P Q E some m = m.1

-- What was taken is the first.
pub first_taken : {X : Type 0} (o : Option X) (A P Q : Type 0) (E : X → Type 0) → MatchOption o (A × P) (λ x. E x × Q)
    → MatchOption o A E
first_taken None A P Q E m = m.0
first_taken (Some x) A P Q E m = m.0
