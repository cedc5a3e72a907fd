-- The first place of an object in a list.
use Rattle.std.proofs.Common.{◌≡◌, ℕ, zero, suc, ◌≤◌, ◌<◌, Bool, true, false, List, [], ◌∷◌, refl, sym, ◌∙◌, length}
use Rattle.std.proofs.Common.{get_or, Option, Some, None, arith}
use Rattle.std.specs.Prelude.{MatchOption, nat_lt, is_some, position, cond}
use Rattle.std.specs.List.{list_any, position_or_len}
use Rattle.std.proofs.lemmas.Bool.{true≢false, or_from, or_parts}
use Rattle.std.proofs.lemmas.Bool.Decides.{nat_tests}
use Rattle.std.proofs.lemmas.List.Sums.{fails_before_first, passes_at_first}

any_none : {X : Type 0} (p : X → Bool) (xs : List X) → ((k : ℕ) (d : X) → k < length xs → p (get_or xs k d) ≡ false)
    → list_any p xs ≡ false
any_none p [] h = refl
any_none p (x ∷ xs) h = or_from (p x) (list_any p xs) (h 0 x (omega arith))
    (any_none p xs (λ k d lt. h (suc k) d (omega (arith, lt))))

pub place_is : {X : Type 0} (p : X → Bool) (xs : List X) (d : X) (o : Option ℕ) → o ≡ position p xs
    → MatchOption o (list_any p xs ≡ false) (λ i. (i < length xs) × (p (get_or xs i d) ≡ true))
place_is {X} p xs d o is =
    let k = position_or_len p xs in
    elim (nat_lt k (length xs)) as (λ b. nat_lt k (length xs) ≡ b → o ≡ cond b (Some k) None →
    MatchOption o (list_any p xs ≡ false) (λ i. (i < length xs) × (p (get_or xs i d) ≡ true))) [
      | true ↦ λ e f. let less : k < length xs = grind (arith, nat_tests) in rw f (less, passes_at_first p xs d less)
      | false ↦ λ e f. let past : length xs ≤ k = grind (arith, nat_tests) in
          rw f (any_none p xs (λ j y lt. fails_before_first p xs j y (omega (arith, lt, past))))
    ] refl is

none_at : {X : Type 0} (p : X → Bool) (xs : List X) (i : ℕ) (d : X) → i < length xs → list_any p xs ≡ false
    → p (get_or xs i d) ≡ false
none_at p [] i d lt h = absurd (omega (arith, lt))
none_at p (x ∷ xs) zero d lt h = (or_parts (p x) (list_any p xs) h).0
none_at p (x ∷ xs) (suc i) d lt h = none_at p xs i d (omega (arith, lt)) (or_parts (p x) (list_any p xs) h).1

-- A list has the object where there is a place of it.
pub place_among : {X : Type 0} (p : X → Bool) (xs : List X) (o : Option ℕ) → o ≡ position p xs
    → is_some o ≡ list_any p xs
place_among {X} p [] o is = rw is refl
place_among {X} p (x ∷ xs) None is = sym (place_is p (x ∷ xs) x None is)
place_among {X} p (x ∷ xs) (Some i) is =
    let w = place_is p (x ∷ xs) x (Some i) is in
    elim (list_any p (x ∷ xs)) as (λ b. list_any p (x ∷ xs) ≡ b → true ≡ b) [
      | true ↦ λ e. refl
      | false ↦ λ e. absurd (true≢false (sym w.1 ∙ none_at p (x ∷ xs) i x w.0 e))
    ] refl
