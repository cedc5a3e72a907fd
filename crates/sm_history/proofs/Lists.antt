-- Lists of numbers, one of which is new.
use Rattle.std.proofs.Common.{◌≡◌, ℕ, Bool, true, false, ◌==◌, List, [], ◌∷◌, refl, ap, map, if◌then◌else◌}
use Rattle.std.specs.Prelude.{filter, not}
use Rattle.std.specs.List.{list_any}
use Rattle.std.proofs.lemmas.Bool.{or_from, or_parts, true≢false}
use Rattle.std.proofs.Common.{◌+◌, ◌≤◌, ◌||◌, length, sym, arith}
use Rattle.std.proofs.lemmas.List.Sums.{length-filter, count_by-le-length}

pub any_filter : {X : Type 0} (p q : X → Bool) (xs : List X) → list_any p xs ≡ false → list_any p (filter q xs) ≡ false
any_filter p q [] h = refl
any_filter {X} p q (x ∷ xs) h =
    elim (q x) as (λ b. list_any p (if b then x ∷ filter q xs else filter q xs) ≡ false) [
      | true ↦ or_from (p x) (list_any p (filter q xs)) (or_parts (p x) (list_any p xs) h).0
          (any_filter p q xs (or_parts (p x) (list_any p xs) h).1)
      | false ↦ any_filter p q xs (or_parts (p x) (list_any p xs) h).1
    ]

-- Two tests that agree but on n keep the same of a list without n.
pub filter_but : (p q : ℕ → Bool) (n : ℕ) (xs : List ℕ) → list_any (λ x. x == n) xs ≡ false
    → ((x : ℕ) → (x == n) ≡ false → p x ≡ q x) → filter p xs ≡ filter q xs
filter_but p q n [] h same = refl
filter_but p q n (x ∷ xs) h same =
    let i = filter_but p q n xs (or_parts (x == n) (list_any (λ x. x == n) xs) h).1 same in
    rw (same x (or_parts (x == n) (list_any (λ x. x == n) xs) h).0)
    (elim (q x) as (λ b. (if b then x ∷ filter p xs else filter p xs) ≡ (if b then x ∷ filter q xs else filter q xs))
    [ true ↦ ap (λ t. x ∷ t) i | false ↦ i ])

pub map_but : {Y : Type 0} (f g : ℕ → Y) (n : ℕ) (xs : List ℕ) → list_any (λ x. x == n) xs ≡ false
    → ((x : ℕ) → (x == n) ≡ false → f x ≡ g x) → map f xs ≡ map g xs
map_but f g n [] h same = refl
map_but f g n (x ∷ xs) h same =
    rw (same x (or_parts (x == n) (list_any (λ x. x == n) xs) h).0)
    (ap (λ t. g x ∷ t) (map_but f g n xs (or_parts (x == n) (list_any (λ x. x == n) xs) h).1 same))

pub filter_shorter : {X : Type 0} (p : X → Bool) (xs : List X) → length (filter p xs) ≤ length xs
filter_shorter p xs = let a = length-filter p xs in let b = count_by-le-length p xs in omega (arith, a, b)

-- A filter leaves out what it doesn't pass.
pub filter_fewer : {X : Type 0} (p : X → Bool) (xs : List X) → list_any p xs ≡ true
    → length (filter (λ x. not (p x)) xs) + 1 ≤ length xs
filter_fewer p [] h = absurd (true≢false (sym h))
filter_fewer p (x ∷ xs) h =
    let ys = filter (λ y. not (p y)) xs in
    elim (p x) as (λ b. (b || list_any p xs) ≡ true → length (if not b then x ∷ ys else ys) + 1 ≤ length (x ∷ xs)) [
      | true ↦ λ e. let i = filter_shorter (λ y. not (p y)) xs in omega (arith, i)
      | false ↦ λ e. let i = filter_fewer p xs e in omega (arith, i)
    ] h
