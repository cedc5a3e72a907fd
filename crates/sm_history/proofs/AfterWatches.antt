-- The watches, after an effect.
use Rattle.std.proofs.Common.{◌≡◌, ℕ, Bool, true, false, ◌||◌, ◌==◌, List, [], ◌∷◌, ◌++◌, refl, ◌∙◌, if◌then◌else◌}
use Rattle.std.specs.Prelude.{filter, not}
use Rattle.std.specs.List.{list_any}
use Rattle.std.proofs.lemmas.List.Elements.{filter-append}
use Rattle.std.proofs.lemmas.List.Folds.{list_any-append}
use Rattle.sm_values.specs.declared.identity.Identity.{Identity}
use Rattle.sm_history.specs.Effects.{Effect, Effects, Watch, Connects, Dies, Watches, Unwatches}
use Rattle.sm_history.specs.Clients.{is_live}
use Rattle.sm_history.specs.Services.{watches_made, watches_at, same_watch, watched_by}
use Rattle.sm_history.proofs.Lists.{any_filter}
use Rattle.sm_history.proofs.AfterClients.{IsNew, live_other, live_dies, other_way, filter_both}
use Rattle.std.proofs.lemmas.Bool.{or_from, or_parts}
use Rattle.sm_history.specs.Sound.{names}

abbrev is_of : ℕ → Watch → Bool
is_of n w = w.client == n

none_by : (x : Effect) (n : ℕ) (ws : List Watch) → names n x ≡ false → list_any (is_of n) ws ≡ false
    → list_any (is_of n) (watched_by x ws) ≡ false
none_by (Watches w) n ws h i = list_any-append (is_of n) ws (w ∷ []) ∙
    or_from (list_any (is_of n) ws) (is_of n w || false) i (or_from (is_of n w) false h refl)
none_by (Unwatches v) n ws h i = any_filter (is_of n) (λ w. not (same_watch v w)) ws i
none_by x n ws h i = i

none_made : (d : Effects) (n : ℕ) → IsNew d n → list_any (is_of n) (watches_made d) ≡ false
none_made [] n h = refl
none_made (x ∷ d) n h = none_by x n (watches_made d) (or_parts (names n x) (list_any (names n) d) h).0
    (none_made d n (or_parts (names n x) (list_any (names n) d) h).1)

filter_new : (p q : ℕ → Bool) (n : ℕ) (ws : List Watch) → list_any (is_of n) ws ≡ false
    → ((k : ℕ) → (k == n) ≡ false → p k ≡ q k) → filter (λ w. p w.client) ws ≡ filter (λ w. q w.client) ws
filter_new p q n [] h same = refl
filter_new p q n (w ∷ ws) h same =
    let i = filter_new p q n ws (or_parts (is_of n w) (list_any (is_of n) ws) h).1 same in
    rw (same w.client (or_parts (is_of n w) (list_any (is_of n) ws) h).0, i) refl

pub watches_connects : (d : Effects) (n : ℕ) (who : Identity) → IsNew d n
    → watches_at (Connects n who ∷ d) ≡ watches_at d
watches_connects d n who new = filter_new (is_live (Connects n who ∷ d)) (is_live d) n (watches_made d)
    (none_made d n new) (λ k e. live_other d n who k (other_way n k e))

pub watches_dies : (d : Effects) (c : ℕ) → watches_at (Dies c ∷ d) ≡ filter (λ w. not (c == w.client)) (watches_at d)
watches_dies d c = filter_both (λ w. is_live d w.client) (λ w. not (c == w.client))
    (λ w. is_live (Dies c ∷ d) w.client) (watches_made d) (λ w. live_dies d c w.client)

pub watches_watches : (d : Effects) (w : Watch)
    → watches_at (Watches w ∷ d) ≡ watches_at d ++ filter (λ v. is_live d v.client) (w ∷ [])
watches_watches d w = filter-append (λ (v : Watch). is_live d v.client) (watches_made d) (w ∷ [])

pub filter_swap : {X : Type 0} (p q : X → Bool) (xs : List X) → filter p (filter q xs) ≡ filter q (filter p xs)
filter_swap p q [] = refl
filter_swap {X} p q (x ∷ xs) =
    let i = filter_swap p q xs in
    elim (q x) as (λ b. q x ≡ b → filter p (if b then x ∷ filter q xs else filter q xs)
    ≡ filter q (if p x then x ∷ filter p xs else filter p xs)) [
      | true ↦ λ e. elim (p x) as (λ a. (if a then x ∷ filter p (filter q xs) else filter p (filter q xs))
          ≡ filter q (if a then x ∷ filter p xs else filter p xs)) [ true ↦ rw (e, i) refl | false ↦ i ]
      | false ↦ λ e. elim (p x) as (λ a. filter p (filter q xs)
          ≡ filter q (if a then x ∷ filter p xs else filter p xs)) [ true ↦ rw (e, i) refl | false ↦ i ]
    ] refl

pub watches_unwatches : (d : Effects) (v : Watch)
    → watches_at (Unwatches v ∷ d) ≡ filter (λ w. not (same_watch v w)) (watches_at d)
watches_unwatches d v = filter_swap (λ (w : Watch). is_live d w.client) (λ w. not (same_watch v w)) (watches_made d)
