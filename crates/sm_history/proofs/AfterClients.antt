-- Who is live, after an effect.
use Rattle.std.proofs.Common.{◌≡◌, ℕ, Bool, true, false, ◌||◌, ◌&&◌, ◌==◌, List, [], ◌∷◌, ◌++◌, refl, ap, ◌∙◌}
use Rattle.std.proofs.Common.{if◌then◌else◌, arith, subst}
use Rattle.std.specs.Prelude.{filter, reverse, filter_map, not}
use Rattle.std.specs.List.{list_any}
use Rattle.std.proofs.lemmas.Bool.Decides.{nat_tests}
use Rattle.std.proofs.lemmas.List.{reverse-append}
use Rattle.std.proofs.lemmas.List.Elements.{filter-append}
use Rattle.sm_values.specs.declared.identity.Identity.{Identity}
use Rattle.sm_history.specs.Effects.{Effect, Effects, Connects, Dies}
use Rattle.sm_history.specs.Clients.{live_clients, is_live, is_connect_of, is_death_of, connected}
use Rattle.sm_history.proofs.Fresh.{not_connected}
use Rattle.sm_history.proofs.Living.{any_reversed}
use Rattle.sm_history.proofs.Lists.{filter_but}
use Rattle.std.proofs.lemmas.Bool.{or_from, or_parts}
use Rattle.sm_history.specs.Sound.{names}
use Rattle.sm_history.proofs.Balanced.{number_same}

-- ---- a Connect

not_death : (x : Effect) (k : ℕ) → names k x ≡ false → is_death_of k x ≡ false
not_death (Dies c) k h = h
not_death x k h = refl

pub not_dead : (d : Effects) (k : ℕ) → list_any (names k) d ≡ false → list_any (is_death_of k) d ≡ false
not_dead [] k h = refl
not_dead (x ∷ d) k h = or_from (is_death_of k x) (list_any (is_death_of k) d)
    (not_death x k (or_parts (names k x) (list_any (names k) d) h).0)
    (not_dead d k (or_parts (names k x) (list_any (names k) d) h).1)

not_among : (d : Effects) (n : ℕ) → list_any (is_connect_of n) d ≡ false
    → list_any (λ x. x == n) (filter_map connected d) ≡ false
not_among [] n h = refl
not_among (Connects c who ∷ d) n h = or_from (c == n) (list_any (λ x. x == n) (filter_map connected d))
    (or_parts (c == n) (list_any (is_connect_of n) d) h).0
    (not_among d n (or_parts (c == n) (list_any (is_connect_of n) d) h).1)
not_among (x ∷ d) n h = not_among d n (or_parts (is_connect_of n x) (list_any (is_connect_of n) d) h).1

pub other_way : (n x : ℕ) → (x == n) ≡ false → (n == x) ≡ false
other_way n x h = grind (arith, nat_tests)

pub live_other : (d : Effects) (n : ℕ) (who : Identity) (x : ℕ) → (n == x) ≡ false
    → is_live (Connects n who ∷ d) x ≡ is_live d x
live_other d n who x h = rw h refl

-- No one is called n yet.
abbrev pub IsNew : Effects → ℕ → Type 0
IsNew d n = list_any (names n) d ≡ false

pub live_new : (d : Effects) (n : ℕ) (who : Identity) → IsNew d n → is_live (Connects n who ∷ d) n ≡ true
live_new d n who new = let e : (n == n) ≡ true = grind (arith, nat_tests) in rw (e, not_dead d n new) refl

pub was_not_live : (d : Effects) (n : ℕ) → IsNew d n → is_live d n ≡ false
was_not_live d n new = rw (not_connected d n new) refl

pub live_connects : (d : Effects) (n : ℕ) (who : Identity) (c : ℕ) → IsNew d n
    → is_live (Connects n who ∷ d) c ≡ (if n == c then true else is_live d c)
live_connects d n who c new =
    elim (n == c) as (λ b. (n == c) ≡ b → is_live (Connects n who ∷ d) c ≡ (if b then true else is_live d c)) [
      | true ↦ λ e. subst (λ v. is_live (Connects n who ∷ d) v ≡ true) (number_same n c e) (live_new d n who new)
      | false ↦ λ e. live_other d n who c e
    ] refl

pub none_new : (d : Effects) (n : ℕ) → IsNew d n → list_any (λ x. x == n) (reverse (filter_map connected d)) ≡ false
none_new d n new = any_reversed (λ x. x == n) (filter_map connected d) ∙ not_among d n (not_connected d n new)

pub list_connects : (d : Effects) (n : ℕ) (who : Identity) → IsNew d n
    → live_clients (Connects n who ∷ d) ≡ live_clients d ++ n ∷ []
list_connects d n who new =
    let d' = Connects n who ∷ d in
    let old = reverse (filter_map connected d) in
    ap (filter (is_live d')) (reverse-append (n ∷ []) (filter_map connected d))
    ∙ filter-append (is_live d') old (n ∷ [])
    ∙ ap (λ xs. xs ++ filter (is_live d') (n ∷ []))
    (filter_but (is_live d') (is_live d) n old (none_new d n new) (λ x h. live_other d n who x (other_way n x h)))
    ∙ rw (live_new d n who new) refl

-- ---- a death

dies_case : (a b t : Bool) → (a && not (t || b)) ≡ ((a && not b) && not t)
dies_case true true true = refl
dies_case true true false = refl
dies_case true false true = refl
dies_case true false false = refl
dies_case false b t = refl

pub live_dies : (d : Effects) (c k : ℕ) → is_live (Dies c ∷ d) k ≡ (is_live d k && not (c == k))
live_dies d c k = dies_case (list_any (is_connect_of k) d) (list_any (is_death_of k) d) (c == k)

pub filter_both : {X : Type 0} (p q r : X → Bool) (xs : List X) → ((x : X) → r x ≡ (p x && q x))
    → filter r xs ≡ filter q (filter p xs)
filter_both p q r [] is = refl
filter_both {X} p q r (x ∷ xs) is =
    let i = filter_both p q r xs is in
    rw (is x) (elim (p x) as (λ a. (if a && q x then x ∷ filter r xs else filter r xs)
    ≡ filter q (if a then x ∷ filter p xs else filter p xs)) [
      | true ↦ elim (q x) as (λ b. (if b then x ∷ filter r xs else filter r xs)
          ≡ (if b then x ∷ filter q (filter p xs) else filter q (filter p xs))) [ true ↦ ap (λ t. x ∷ t) i | false ↦ i ]
      | false ↦ i
    ])

pub list_dies : (d : Effects) (c : ℕ) → live_clients (Dies c ∷ d) ≡ filter (λ k. not (c == k)) (live_clients d)
list_dies d c = filter_both (is_live d) (λ k. not (c == k)) (is_live (Dies c ∷ d)) (reverse (filter_map connected d))
    (λ k. live_dies d c k)
