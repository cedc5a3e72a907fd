-- No effect names a client that has not connected.
use Rattle.std.proofs.Common.{◌≡◌, ℕ, ◌≤◌, ◌<◌, Bool, true, false, ◌==◌, List, [], ◌∷◌, refl, subst, arith}
use Rattle.std.proofs.Common.{if◌then◌else◌}
use Rattle.std.specs.List.{list_any, list_all}
use Rattle.std.proofs.lemmas.Bool.Decides.{nat_tests}
use Rattle.std.proofs.lemmas.Bool.{and_parts, or_from, or_parts}
use Rattle.sm_history.specs.Effects.{Effect, Effects, Connects}
use Rattle.sm_history.specs.Clients.{is_live, next_client, is_connect_of}
use Rattle.std.specs.Prelude.{filter, nat_lt}
use Rattle.sm_history.specs.Sound.{IsFresh, names}

pub below : (c n k : ℕ) → c < n → n ≤ k → (c == k) ≡ false
below c n k lt le = grind (arith, nat_tests)

-- One more effect, of a client that has connected.
pub fresh_more : (x : Effect) (d : Effects) → IsFresh d → next_client (x ∷ d) ≡ next_client d
    → ((k : ℕ) → next_client d ≤ k → names k x ≡ false) → IsFresh (x ∷ d)
fresh_more x d fresh same new k le = let le' : next_client d ≤ k = subst (λ (n : ℕ). n ≤ k) same le in
    or_from (names k x) (list_any (names k) d) (new k le') (fresh k le')

pub fresh_connect : (d : Effects) (who : _) → IsFresh d → IsFresh (Connects (next_client d) who ∷ d)
fresh_connect d who fresh k le = or_from (next_client d == k) (list_any (names k) d) (grind (arith, nat_tests))
    (fresh k (omega arith))

-- A client that no effect names has not connected.
pub not_connected : (d : Effects) (k : ℕ) → list_any (names k) d ≡ false → list_any (is_connect_of k) d ≡ false
not_connected [] k h = refl
not_connected (Connects c who ∷ d) k h = or_from (c == k) (list_any (is_connect_of k) d)
    (or_parts (c == k) (list_any (names k) d) h).0 (not_connected d k (or_parts (c == k) (list_any (names k) d) h).1)
not_connected (x ∷ d) k h = not_connected d k (or_parts (names k x) (list_any (names k) d) h).1

-- A live client's number was given out.
pub live_below : (d : Effects) (c : ℕ) → IsFresh d → is_live d c ≡ true → c < next_client d
live_below d c fresh live =
    elim (nat_lt c (next_client d)) as (λ b. nat_lt c (next_client d) ≡ b → c < next_client d) [
      | true ↦ λ e. grind (arith, nat_tests)
      | false ↦ λ e. absurd (let none : is_live d c ≡ false =
          rw (not_connected d c (fresh c (grind (arith, nat_tests)))) refl in grind (arith, none, live))
    ] refl

-- What holds of each element that a filter keeps.
pub all_filtered : {X : Type 0} → (p q : X → Bool) (xs : List X) → ((x : X) → p x ≡ true → q x ≡ true)
    → list_all q (filter p xs) ≡ true
all_filtered p q [] imp = refl
all_filtered {X} p q (x ∷ xs) imp =
    elim (p x) as (λ b. p x ≡ b → list_all q (if b then x ∷ filter p xs else filter p xs) ≡ true) [
      | true ↦ λ e. rw (imp x e) (all_filtered p q xs imp)
      | false ↦ λ e. all_filtered p q xs imp
    ] refl

pub all_filtered_again : {X : Type 0} → (p q : X → Bool) (xs : List X) → list_all q xs ≡ true
    → list_all q (filter p xs) ≡ true
all_filtered_again p q [] h = refl
all_filtered_again p q (x ∷ xs) h =
    elim (p x) as (λ b. list_all q (if b then x ∷ filter p xs else filter p xs) ≡ true) [
      | true ↦ rw (and_parts (q x) (list_all q xs) h).0
          (all_filtered_again p q xs (and_parts (q x) (list_all q xs) h).1)
      | false ↦ all_filtered_again p q xs (and_parts (q x) (list_all q xs) h).1
    ]
