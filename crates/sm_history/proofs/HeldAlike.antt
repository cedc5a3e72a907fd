-- Who holds the same objects under the same numbers holds as many, and finds the same under each number,
-- in whatever order they were given.
use Rattle.std.proofs.Common.{◌≡◌, ℕ, ◌+◌, ◌≤◌, Bool, true, false, ◌||◌, ◌==◌, List, [], ◌∷◌, refl, ap, sym, ◌∙◌}
use Rattle.std.proofs.Common.{subst, length, Option, Some, None, if◌then◌else◌, arith}
use Rattle.std.specs.Prelude.{filter, not, is_none, unwrap_or}
use Rattle.std.specs.List.{list_any, find, range_with_len}
use Rattle.std.proofs.lemmas.Bool.Decides.{nat_tests}
use Rattle.std.proofs.lemmas.Bool.{true≢false}
use Rattle.sm_values.specs.declared.number.Node.{Node}
use Rattle.sm_history.specs.Effects.{Effects, same_node}
use Rattle.sm_history.specs.Holdings.{is_held, held_nodes, given_nodes, number_at, node_at, free_number}
use Rattle.sm_history.proofs.Balanced.{node_same, number_same}
use Rattle.sm_history.proofs.Grants.{IsDistinct, given_distinct, held_given, same_self}
use Rattle.sm_history.proofs.Lists.{any_filter, filter_fewer}
use Rattle.sm_history.specs.Sound.{HasOneEach}

-- ---- lists of objects

any_kept : (p : Node → Bool) (xs : List Node) (n : Node) → list_any (same_node n) (filter p xs) ≡ true → p n ≡ true
any_kept p [] n h = absurd (true≢false (sym h))
any_kept p (x ∷ xs) n h =
    elim (p x) as (λ b. p x ≡ b → list_any (same_node n) (if b then x ∷ filter p xs else filter p xs) ≡ true →
    p n ≡ true) [
      | true ↦ λ e h'. elim (same_node n x) as (λ t. same_node n x ≡ t →
          (t || list_any (same_node n) (filter p xs)) ≡ true → p n ≡ true) [
            | true ↦ λ s i. ap p (node_same n x s) ∙ e
            | false ↦ λ s i. any_kept p xs n i
          ] refl h'
      | false ↦ λ e h'. any_kept p xs n h'
    ] refl h

any_stays : (p : Node → Bool) (xs : List Node) (n : Node) → p n ≡ true → list_any (same_node n) xs ≡ true
    → list_any (same_node n) (filter p xs) ≡ true
any_stays p [] n pn h = h
any_stays p (x ∷ xs) n pn h =
    elim (same_node n x) as (λ t. same_node n x ≡ t → (t || list_any (same_node n) xs) ≡ true →
    list_any (same_node n) (if p x then x ∷ filter p xs else filter p xs) ≡ true) [
      | true ↦ λ s i. let px : p x ≡ true = ap p (sym (node_same n x s)) ∙ pn in rw (px, s) refl
      | false ↦ λ s i.
          let j = any_stays p xs n pn i in
          elim (p x) as (λ b. list_any (same_node n) (if b then x ∷ filter p xs else filter p xs) ≡ true) [
            | true ↦ rw (s, j) refl
            | false ↦ j
          ]
    ] refl h

pub distinct_filter : (p : Node → Bool) (xs : List Node) → IsDistinct xs → IsDistinct (filter p xs)
distinct_filter p [] h = tt
distinct_filter p (x ∷ xs) h =
    elim (p x) as (λ b. IsDistinct (if b then x ∷ filter p xs else filter p xs)) [
      | true ↦ (any_filter (same_node x) p xs h.0, distinct_filter p xs h.1)
      | false ↦ distinct_filter p xs h.1
    ]

pub fewer : (xs ys : List Node) → IsDistinct xs
    → ((n : Node) → list_any (same_node n) xs ≡ true → list_any (same_node n) ys ≡ true) → length xs ≤ length ys
fewer [] ys dist in_ys = omega arith
fewer (x ∷ xs) ys dist in_ys =
    let here = in_ys x (rw (same_self x) refl) in
    let p = λ (m : Node). not (same_node x m) in
    let i = fewer xs (filter p ys) dist.1 (λ n h. any_stays p ys n
    (elim (same_node x n) as (λ b. same_node x n ≡ b → not b ≡ true) [
      | false ↦ λ e. refl
      | true ↦ λ e. absurd (true≢false
          (sym h ∙ subst (λ (v : Node). list_any (same_node v) xs ≡ false) (node_same x n e) dist.0))
    ] refl)
    (in_ys n (elim (same_node n x) as (λ b. (b || list_any (same_node n) xs) ≡ true) [ true ↦ refl | false ↦ h ]))) in
    let s = filter_fewer (same_node x) ys here in
    omega (arith, i, s)

find_some : (p : Node → Bool) (xs : List Node) (x : Node) → find p xs ≡ Some x
    → (p x ≡ true) × (list_any (same_node x) xs ≡ true)
find_some p [] x h = cc
find_some p (y ∷ ys) x h =
    elim (p y) as (λ b. p y ≡ b → (let o : Option Node = if b then Some y else find p ys in o ≡ Some x) →
    (p x ≡ true) × (list_any (same_node x) (y ∷ ys) ≡ true)) [
      | true ↦ λ e s. let same : y ≡ x = cc in (
        ap p (sym same) ∙ e,
        subst (λ (v : Node). (same_node x v || list_any (same_node x) ys) ≡ true) (sym same)
            (rw (same_self x) refl),
      )
      | false ↦ λ e s. let i = find_some p ys x s in
          (i.0, elim (same_node x y) as (λ b. (b || list_any (same_node x) ys) ≡ true) [ true ↦ refl | false ↦ i.1 ])
    ] refl h

find_none : (p : Node → Bool) (xs : List Node) (x : Node) → find p xs ≡ None → list_any (same_node x) xs ≡ true
    → p x ≡ false
find_none p [] x h i = absurd (true≢false (sym i))
find_none p (y ∷ ys) x h i =
    elim (p y) as (λ b. p y ≡ b → (let o : Option Node = if b then Some y else find p ys in o ≡ None) → p x ≡ false) [
      | true ↦ λ e s. cc
      | false ↦ λ e s. elim (same_node x y) as (λ t. same_node x y ≡ t → (t || list_any (same_node x) ys) ≡ true →
          p x ≡ false) [
            | true ↦ λ t j. ap p (node_same x y t) ∙ e
            | false ↦ λ t j. find_none p ys x s j
          ] refl i
    ] refl h

-- ---- what is held

pub held_among : (d : Effects) (c : ℕ) (n : Node) → is_held d c n ≡ true
    → list_any (same_node n) (held_nodes d c) ≡ true
held_among d c n h = any_stays (is_held d c) (given_nodes d c) n h (held_given d c n h)

pub among_held : (d : Effects) (c : ℕ) (n : Node) → list_any (same_node n) (held_nodes d c) ≡ true
    → is_held d c n ≡ true
among_held d c n h = any_kept (is_held d c) (given_nodes d c) n h

abbrev pub HoldAlike : Effects → Effects → ℕ → Type 0
HoldAlike d e c = (n : Node) → is_held d c n ≡ is_held e c n

abbrev pub NumbersAlike : Effects → Effects → ℕ → Type 0
NumbersAlike d e c = (n : Node) → is_held d c n ≡ true → number_at d c n ≡ number_at e c n

no_fewer : (d e : Effects) (c : ℕ) → HoldAlike d e c → length (held_nodes d c) ≤ length (held_nodes e c)
no_fewer d e c same = fewer (held_nodes d c) (held_nodes e c)
    (distinct_filter (is_held d c) (given_nodes d c) (given_distinct d c))
    (λ n h. held_among e c n (sym (same n) ∙ among_held d c n h))

pub counts_alike : (d e : Effects) (c : ℕ) → HoldAlike d e c → length (held_nodes d c) ≡ length (held_nodes e c)
counts_alike d e c same = let a = no_fewer d e c same in let b = no_fewer e d c (λ n. sym (same n)) in
    omega (arith, a, b)

pub number_is : (a r : ℕ) → a ≡ r → (a == r) ≡ true
number_is a r e = grind (arith, nat_tests)

pub node_held : (d : Effects) (c r : ℕ) (n : Node) → node_at d c r ≡ Some n
    → (is_held d c n ≡ true) × (number_at d c n ≡ r)
node_held d c r n h = let f = find_some (λ m. number_at d c m == r) (held_nodes d c) n h in
    (among_held d c n f.1, number_same (number_at d c n) r f.0)

pub node_not_held : (d : Effects) (c r : ℕ) (n : Node) → node_at d c r ≡ None → is_held d c n ≡ true
    → (number_at d c n == r) ≡ false
node_not_held d c r n h held = find_none (λ m. number_at d c m == r) (held_nodes d c) n h (held_among d c n held)

pub node_is : (d : Effects) (c r : ℕ) (n : Node) → HasOneEach d c → is_held d c n ≡ true → number_at d c n ≡ r
    → node_at d c r ≡ Some n
node_is d c r n one held is =
    elim (node_at d c r) as (λ o. node_at d c r ≡ o → o ≡ Some n) [
      | None ↦ λ e. absurd (true≢false (sym (number_is (number_at d c n) r is) ∙ node_not_held d c r n e held))
      | Some m ↦ λ e. let h = node_held d c r m e in ap (λ (v : Node). Some v) (one m n h.0 held (h.1 ∙ sym is))
    ] refl

pub nodes_alike : (d e : Effects) (c r : ℕ) → HoldAlike d e c → NumbersAlike d e c → HasOneEach e c
    → node_at d c r ≡ node_at e c r
nodes_alike d e c r same numbers one =
    elim (node_at d c r) as (λ o. node_at d c r ≡ o → o ≡ node_at e c r) [
      | Some n ↦ λ s. let h = node_held d c r n s in sym
          (node_is e c r n one (sym (same n) ∙ h.0) (sym (numbers n h.0) ∙ h.1))
      | None ↦ λ s. elim (node_at e c r) as (λ o. node_at e c r ≡ o → (let none : Option Node = None in none) ≡ o) [
        | None ↦ λ t. refl
        | Some m ↦ λ t.
            let h = node_held e c r m t in
            let held = same m ∙ h.0 in
            absurd (true≢false (sym (number_is (number_at d c m) r (numbers m held ∙ h.1)) ∙
            node_not_held d c r m s held))
      ] refl
    ] refl

find_alike : (p q : ℕ → Bool) (xs : List ℕ) → ((x : ℕ) → p x ≡ q x) → find p xs ≡ find q xs
find_alike p q [] same = refl
find_alike p q (x ∷ xs) same = rw (same x, find_alike p q xs same) refl

pub free_alike : (d e : Effects) (c : ℕ) → HoldAlike d e c → NumbersAlike d e c → HasOneEach e c
    → free_number d c ≡ free_number e c
free_alike d e c same numbers one =
    ap (λ (o : Option ℕ). unwrap_or o 0)
    (find_alike (λ r. is_none (node_at d c r)) (λ r. is_none (node_at e c r))
    (range_with_len 1 (length (held_nodes d c) + 1))
    (λ r. ap (λ (o : Option Node). is_none o) (nodes_alike d e c r same numbers one))
    ∙ ap (λ k. find (λ r. is_none (node_at e c r)) (range_with_len 1 (k + 1))) (counts_alike d e c same))
