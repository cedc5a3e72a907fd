-- Names in rising byte order: two such lists of the same names are one.
use Rattle.std.proofs.Common.{◌≡◌, ℕ, Bool, true, false, ◌||◌, ◌&&◌, List, [], ◌∷◌, refl, ap, sym, ◌∙◌, subst, Option}
use Rattle.std.proofs.Common.{None, if◌then◌else◌}
use Rattle.std.specs.Prelude.{bytes_eq, filter, is_some}
use Rattle.std.specs.List.{list_any, list_all}
use Rattle.std.specs.Ordering.{nat_cmp, is_eq, is_lt, ordering_reverse}
use Rattle.std.specs.Cmp.Lexicographic.{slice_cmp}
use Rattle.std.specs.declared.cmp.Ordering.{Ordering}
use Rattle.std.specs.declared.cmp.Ordering.TheVariants.{Less, Equal, Greater}
use Rattle.std.proofs.lemmas.Cmp.{nat_list_cmp_total}
use Rattle.std.proofs.lemmas.Bool.{true≢false, and_parts, or_from, or_parts}
use Rattle.std.proofs.lemmas.Map.Text.{is_eq-slice_cmp}
use Rattle.std.proofs.lemmas.Map.Views.{any-filter_same}
use Rattle.std.proofs.lemmas.Slice.Eq.{bytes_eq-Decides}
use Rattle.sm_history.specs.declared.service.Service.{Service}
use Rattle.sm_history.specs.Effects.{Effects, Adds, Removes}
use Rattle.sm_history.specs.Rising.{AllAfter, IsRising}
use Rattle.sm_history.specs.Services.{service_at, last_said, names_added, current_names, inserted_name, placed_by}
use Rattle.sm_history.specs.Services.{said_or, Silent, Gone}
use Rattle.std.proofs.Math.Bool.{and-true}

pub same_bytes : (a b : List ℕ) → bytes_eq a b ≡ true → a ≡ b
same_bytes a b e = (bytes_eq-Decides a b).0 e

pub own_bytes : (a : List ℕ) → bytes_eq a a ≡ true
own_bytes a = (bytes_eq-Decides a a).1 refl

pub equal_names : (a b : List ℕ) → slice_cmp nat_cmp a b ≡ Equal → a ≡ b
equal_names a b e = same_bytes a b (sym (is_eq-slice_cmp a b) ∙ ap is_eq e)

pub apart_names : (a b : List ℕ) (o : Ordering) → slice_cmp nat_cmp a b ≡ o → is_eq o ≡ false → bytes_eq a b ≡ false
apart_names a b o e n = sym (is_eq-slice_cmp a b) ∙ ap is_eq e ∙ n

pub turned : (a b : List ℕ) → slice_cmp nat_cmp a b ≡ Greater → slice_cmp nat_cmp b a ≡ Less
turned a b e = nat_list_cmp_total.antisymm b a ∙ ap ordering_reverse e

pub less_is : (o : Ordering) → is_lt o ≡ true → o ≡ Less
less_is Less h = refl
less_is _ h = absurd (true≢false (sym h))

pub head_after : (name x : List ℕ) (xs : List (List ℕ)) → AllAfter name (x ∷ xs) → slice_cmp nat_cmp name x ≡ Less
head_after name x xs h = less_is (slice_cmp nat_cmp name x)
    (and_parts (is_lt (slice_cmp nat_cmp name x)) (list_all (λ y. is_lt (slice_cmp nat_cmp name y)) xs) h).0

pub tail_after : (name x : List ℕ) (xs : List (List ℕ)) → AllAfter name (x ∷ xs) → AllAfter name xs
tail_after name x xs h = (and_parts (is_lt (slice_cmp nat_cmp name x))
    (list_all (λ y. is_lt (slice_cmp nat_cmp name y)) xs) h).1

pub more_after : (name x : List ℕ) (xs : List (List ℕ)) → slice_cmp nat_cmp name x ≡ Less → AllAfter name xs
    → AllAfter name (x ∷ xs)
more_after name x xs e h = rw (e, h) refl

pub all_after : (name x : List ℕ) (xs : List (List ℕ)) → slice_cmp nat_cmp name x ≡ Less → AllAfter x xs →
    AllAfter name xs
all_after name x [] e h = refl
all_after name x (y ∷ ys) e h =
    more_after name y ys (nat_list_cmp_total.trans name x y e (head_after x y ys h))
    (all_after name x ys e (tail_after x y ys h))

placed_after : (a name : List ℕ) (xs : List (List ℕ)) → slice_cmp nat_cmp a name ≡ Less → AllAfter a xs
    → AllAfter a (inserted_name name xs)
placed_after a name [] e h = more_after a name [] e refl
placed_after a name (x ∷ xs) e h =
    let i = placed_after a name xs e (tail_after a x xs h) in
    elim (slice_cmp nat_cmp name x) as (λ o. AllAfter a (placed_by o name x xs (inserted_name name xs))) [
      | Less ↦ more_after a name (x ∷ xs) e h
      | Equal ↦ h
      | Greater ↦ more_after a x (inserted_name name xs) (head_after a x xs h) i
    ]

rising_placed : (name : List ℕ) (xs : List (List ℕ)) → IsRising xs → IsRising (inserted_name name xs)
rising_placed name [] h = (refl, tt)
rising_placed name (x ∷ xs) h =
    elim (slice_cmp nat_cmp name x) as (λ o. slice_cmp nat_cmp name x ≡ o →
    IsRising (placed_by o name x xs (inserted_name name xs))) [
      | Less ↦ λ e. (more_after name x xs e (all_after name x xs e h.0), h)
      | Equal ↦ λ e. h
      | Greater ↦ λ e. (placed_after x name xs (turned name x e) h.0, rising_placed name xs h.1)
    ] refl

pub rising_added : (d : Effects) → IsRising (names_added d)
rising_added [] = tt
rising_added (Adds name s ∷ d) = rising_placed name (names_added d) (rising_added d)
rising_added (x ∷ d) = rising_added d

any_placed : (q name : List ℕ) (ns : List (List ℕ)) → list_any (λ x. bytes_eq x q) (inserted_name name ns) ≡ false
    → (bytes_eq name q ≡ false) × (list_any (λ x. bytes_eq x q) ns ≡ false)
any_placed q name [] h = ((or_parts (bytes_eq name q) false h).0, refl)
any_placed q name (x ∷ xs) h =
    let p = λ (y : List ℕ). bytes_eq y q in
    elim (slice_cmp nat_cmp name x) as (λ o. slice_cmp nat_cmp name x ≡ o →
    list_any p (placed_by o name x xs (inserted_name name xs)) ≡ false →
    (p name ≡ false) × (list_any p (x ∷ xs) ≡ false)) [
      | Less ↦ λ e h'. ((or_parts (p name) (list_any p (x ∷ xs)) h').0, (or_parts (p name) (list_any p (x ∷ xs)) h').1)
      | Equal ↦ λ e h'. (ap p (equal_names name x e) ∙ (or_parts (p x) (list_any p xs) h').0, h')
      | Greater ↦ λ e h'.
          let i = any_placed q name xs (or_parts (p x) (list_any p (inserted_name name xs)) h').1 in
          (i.0, or_from (p x) (list_any p xs) (or_parts (p x) (list_any p (inserted_name name xs)) h').0 i.1)
    ] refl h

never_said : (d : Effects) (name : List ℕ) → list_any (λ x. bytes_eq x name) (names_added d) ≡ false
    → last_said d name ≡ None
never_said [] name h = refl
never_said (Adds other s ∷ d) name h = let a = any_placed name other (names_added d) h in rw a.0 (never_said d name a.1)
never_said (Removes other ∷ d) name h =
    elim (bytes_eq other name) as (λ b. said_or (if b then Gone else Silent) (last_said d name) ≡ None)
    [ true ↦ refl | false ↦ never_said d name h ]
never_said (x ∷ d) name h = never_said d name h

-- ---- rising lists

abbrev pub is_in : List ℕ → List (List ℕ) → Bool
is_in q ns = list_any (λ x. bytes_eq x q) ns

pub swapped : (a b : List ℕ) → bytes_eq a b ≡ false → bytes_eq b a ≡ false
swapped a b h =
    elim (bytes_eq b a) as (λ t. bytes_eq b a ≡ t → t ≡ false) [
      | false ↦ λ f. refl
      | true ↦ λ f. sym (own_bytes a) ∙ subst (λ (v : List ℕ). bytes_eq a v ≡ false) (same_bytes b a f) h
    ] refl

pub not_in : (a : List ℕ) (ns : List (List ℕ)) → AllAfter a ns → is_in a ns ≡ false
not_in a [] h = refl
not_in a (y ∷ ys) h = or_from (bytes_eq y a) (is_in a ys)
    (swapped a y (apart_names a y Less (head_after a y ys h) refl)) (not_in a ys (tail_after a y ys h))

before_all : (a y : List ℕ) (ys : List (List ℕ)) → slice_cmp nat_cmp a y ≡ Less → AllAfter y ys
    → is_in a (y ∷ ys) ≡ false
before_all a y ys e h = not_in a (y ∷ ys) (more_after a y ys e (all_after a y ys e h))

first_in : (x : List ℕ) (xs : List (List ℕ)) → is_in x (x ∷ xs) ≡ true
first_in x xs = rw (own_bytes x) refl

-- Two rising lists of the same names are one list.
pub rising_same : (xs ys : List (List ℕ)) → IsRising xs → IsRising ys → ((q : List ℕ) → is_in q xs ≡ is_in q ys)
    → xs ≡ ys
rising_same [] [] hx hy same = refl
rising_same [] (y ∷ ys) hx hy same = absurd (true≢false (sym (first_in y ys) ∙ sym (same y)))
rising_same (x ∷ xs) [] hx hy same = absurd (true≢false (sym (first_in x xs) ∙ same x))
rising_same (x ∷ xs) (y ∷ ys) hx hy same =
    elim (slice_cmp nat_cmp x y) as (λ o. slice_cmp nat_cmp x y ≡ o → (let l : List (List ℕ) = x ∷ xs in l) ≡ y ∷ ys) [
      | Less ↦ λ e. absurd (true≢false (sym (first_in x xs) ∙ same x ∙ before_all x y ys e hy.0))
      | Equal ↦ λ e.
          let is : x ≡ y = equal_names x y e in
          let tails : (q : List ℕ) → is_in q xs ≡ is_in q ys = λ q.
          elim (bytes_eq x q) as (λ b. bytes_eq x q ≡ b → is_in q xs ≡ is_in q ys) [
            | true ↦ λ f. rw (← same_bytes x q f) (not_in x xs hx.0 ∙ sym (not_in x ys (rw is hy.0)))
            | false ↦ λ f.
                let g : bytes_eq y q ≡ false = subst (λ (v : List ℕ). bytes_eq v q ≡ false) is f in
                let s : (bytes_eq x q || is_in q xs) ≡ (bytes_eq y q || is_in q ys) = same q in
                ap (λ b. b || is_in q xs) (sym f) ∙ s ∙ ap (λ b. b || is_in q ys) g
          ] refl in
          ap (λ (v : List ℕ). v ∷ xs) is ∙ ap (λ l. y ∷ l) (rising_same xs ys hx.1 hy.1 tails)
      | Greater ↦ λ e. absurd (true≢false (sym (first_in y ys) ∙ sym (same y) ∙ before_all y x xs (turned x y e) hx.0))
    ] refl

pub after_filter : (p : List ℕ → Bool) (a : List ℕ) (ns : List (List ℕ)) → AllAfter a ns → AllAfter a (filter p ns)
after_filter p a [] h = refl
after_filter p a (x ∷ xs) h =
    let i = after_filter p a xs (tail_after a x xs h) in
    elim (p x) as (λ b. AllAfter a (if b then x ∷ filter p xs else filter p xs))
    [ true ↦ more_after a x (filter p xs) (head_after a x xs h) i | false ↦ i ]

pub rising_filter : (p : List ℕ → Bool) (ns : List (List ℕ)) → IsRising ns → IsRising (filter p ns)
rising_filter p [] h = tt
rising_filter p (x ∷ xs) h =
    let i = rising_filter p xs h.1 in
    elim (p x) as (λ b. IsRising (if b then x ∷ filter p xs else filter p xs))
    [ true ↦ (after_filter p x xs h.0, i) | false ↦ i ]

-- ---- the names that have a service

pub in_current : (d : Effects) (q : List ℕ) → is_in q (current_names d) ≡ is_some (service_at d q)
in_current d q =
    any-filter_same (λ x. bytes_eq x q) (λ n. is_some (service_at d n)) (is_some (service_at d q))
    (λ k e. ap (λ (n : List ℕ). is_some (service_at d n)) (same_bytes k q e)) (names_added d)
    ∙ elim (is_in q (names_added d)) as (λ b. is_in q (names_added d) ≡ b →
    (is_some (service_at d q) && b) ≡ is_some (service_at d q)) [
      | true ↦ λ e. and-true (is_some (service_at d q))
      | false ↦ λ e. rw (never_said d q e) refl
    ] refl

-- Where each name has the same service, the names that have one are the same.
pub names_alike : (d e : Effects) → ((name : List ℕ) → service_at d name ≡ service_at e name)
    → current_names d ≡ current_names e
names_alike d e same =
    rising_same (current_names d) (current_names e)
    (rising_filter (λ n. is_some (service_at d n)) (names_added d) (rising_added d))
    (rising_filter (λ n. is_some (service_at e n)) (names_added e) (rising_added e))
    (λ q. in_current d q ∙ ap (λ (o : Option Service). is_some o) (same q) ∙ sym (in_current e q))
