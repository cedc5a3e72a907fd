-- Lists of watches in the order of their names.
use Rattle.std.proofs.Common.{◌≡◌, ℕ, zero, suc, ◌+◌, ◌-◌, ◌<◌, ◌≤◌, Bool, true, false, List, [], ◌∷◌, ◌++◌, refl, ap}
use Rattle.std.proofs.Common.{sym, ◌∙◌, subst, length, get_or, take, drop, if◌then◌else◌, arith}
use Rattle.std.specs.Prelude.{not, bytes_eq, filter, insert}
use Rattle.std.specs.List.{AllWithin, list_all}
use Rattle.std.specs.List.Sorted.{IsPartitionedBy, IsPartitionPoint}
use Rattle.std.specs.Ordering.{nat_cmp, is_eq, is_lt, is_le, is_gt}
use Rattle.std.specs.Cmp.Lexicographic.{slice_cmp}
use Rattle.std.specs.declared.cmp.Ordering.{Ordering}
use Rattle.std.specs.declared.cmp.Ordering.TheVariants.{Less, Equal, Greater}
use Rattle.std.proofs.lemmas.Bool.{true≢false, and_parts}
use Rattle.std.proofs.lemmas.Cmp.{nat_list_cmp_total}
use Rattle.std.proofs.lemmas.List.{append-nil, get_or-drop, length-drop, take_all}
use Rattle.std.proofs.lemmas.Map.Text.{is_eq-slice_cmp}
use Rattle.sm_history.specs.declared.effect.Watch.{Watch}
use Rattle.sm_history.proofs.Rising.{same_bytes, own_bytes, equal_names, apart_names, turned, less_is}
use Rattle.sm_names.specs.Watching.{watchers_in, NoneBefore, AreInOrder}

-- ---- names in order

abbrev order : List ℕ → List ℕ → Ordering
order a b = slice_cmp nat_cmp a b

equal_is : (o : Ordering) → is_eq o ≡ true → o ≡ Equal
equal_is Equal h = refl
equal_is _ h = absurd (true≢false (sym h))

order_own : (a : List ℕ) → order a a ≡ Equal
order_own a = equal_is (order a a) (is_eq-slice_cmp a a ∙ own_bytes a)

-- Not behind, and then before or not behind.
le_lt : (a b c : List ℕ) → is_le (order a b) ≡ true → is_lt (order b c) ≡ true → is_lt (order a c) ≡ true
le_lt a b c h k =
    elim (order a b) as (λ o. order a b ≡ o → is_le o ≡ true → is_lt (order a c) ≡ true) [
      | Less ↦ λ e g. ap is_lt (nat_list_cmp_total.trans a b c e (less_is (order b c) k))
      | Equal ↦ λ e g. subst (λ (v : List ℕ). is_lt (order v c) ≡ true) (sym (equal_names a b e)) k
      | Greater ↦ λ e g. absurd (true≢false (sym g))
    ] refl h

le_le : (a b c : List ℕ) → is_le (order a b) ≡ true → is_le (order b c) ≡ true → is_le (order a c) ≡ true
le_le a b c h k =
    elim (order b c) as (λ o. order b c ≡ o → is_le o ≡ true → is_le (order a c) ≡ true) [
      | Less ↦ λ e g. lt_le (order a c) (le_lt a b c h (ap is_lt e))
      | Equal ↦ λ e g. subst (λ (v : List ℕ). is_le (order a v) ≡ true) (equal_names b c e) h
      | Greater ↦ λ e g. absurd (true≢false (sym g))
    ] refl k
  where
    lt_le : (o : Ordering) → is_lt o ≡ true → is_le o ≡ true
    lt_le Less h = refl
    lt_le _ h = absurd (true≢false (sym h))

-- Neither before nor behind.
between : (a b : List ℕ) → is_lt (order a b) ≡ false → is_le (order a b) ≡ true → bytes_eq a b ≡ true
between a b h k =
    elim (order a b) as (λ o. order a b ≡ o → is_lt o ≡ false → is_le o ≡ true → bytes_eq a b ≡ true) [
      | Less ↦ λ e f g. absurd (true≢false f)
      | Equal ↦ λ e f g. sym (is_eq-slice_cmp a b) ∙ ap is_eq e
      | Greater ↦ λ e f g. absurd (true≢false (sym g))
    ] refl h k

-- What is behind is not before, and the other way round.
behind : (a b : List ℕ) → is_le (order a b) ≡ false → is_le (order b a) ≡ true
behind a b h =
    elim (order a b) as (λ o. order a b ≡ o → is_le o ≡ false → is_le (order b a) ≡ true) [
      | Greater ↦ λ e f. ap is_le (turned a b e)
      | _ ↦ λ e f. absurd (true≢false f)
    ] refl h

behind_apart : (a b : List ℕ) → is_le (order a b) ≡ false → bytes_eq a b ≡ false
behind_apart a b h =
    elim (order a b) as (λ o. order a b ≡ o → is_le o ≡ false → bytes_eq a b ≡ false) [
      | Greater ↦ λ e f. apart_names a b Greater e refl
      | _ ↦ λ e f. absurd (true≢false f)
    ] refl h

before_apart : (a b : List ℕ) → is_lt (order a b) ≡ true → bytes_eq a b ≡ false
before_apart a b h =
    elim (order a b) as (λ o. order a b ≡ o → is_lt o ≡ true → bytes_eq a b ≡ false) [
      | Less ↦ λ e f. apart_names a b Less e refl
      | _ ↦ λ e f. absurd (true≢false (sym f))
    ] refl h

-- ---- filters of the front and of the rest

filter_empty : {X : Type 0} (p : X → Bool) (xs : List X) → AllWithin (λ x. p x ≡ false) xs 0 (length xs)
    → filter p xs ≡ []
filter_empty p [] h = refl
filter_empty p (x ∷ xs) h = rw (h 0 x (omega arith) (omega arith)) (filter_empty p xs (λ k d a b. h (suc k) d
    (omega arith) (omega (arith, b))))

filter_rest : {X : Type 0} (p : X → Bool) (xs : List X) (n : ℕ) → n ≤ length xs
    → AllWithin (λ x. p x ≡ false) xs 0 n → filter p (drop n xs) ≡ filter p xs
filter_rest p xs zero le h = refl
filter_rest p [] (suc n) le h = refl
filter_rest p (x ∷ xs) (suc n) le h =
    rw (h 0 x (omega arith) (omega arith)) (filter_rest p xs n (omega (arith, le)) (λ k d a b. h (suc k) d
    (omega arith) (omega (arith, b))))

pub filter_front : {X : Type 0} (p : X → Bool) (xs : List X) (n : ℕ) → n ≤ length xs
    → IsPartitionPoint (λ x. p x ≡ true) (λ x. p x ≡ false) xs n → take n xs ≡ filter p xs
filter_front p xs zero le h = sym (filter_empty p xs h.1)
filter_front p [] (suc n) le h = refl
filter_front p (x ∷ xs) (suc n) le h =
    rw (h.0 0 x (omega arith) (omega arith))
    (ap (λ ys. x ∷ ys) (filter_front p xs n (omega (arith, le)) (
      (λ k d a b. h.0 (suc k) d (omega arith) (omega
          (arith, b))),
      (λ k d a b. h.1 (suc k) d (omega (arith, a)) (omega (arith, b))),
    )))

-- What is left of a list behind its front, as the code cuts it.
pub rest_is : (ws : List Watch) (n : ℕ) → take (length ws - n) (drop n ws) ≡ drop n ws
rest_is ws n = take_all (length ws - n) (drop n ws) (let long = length-drop n ws in omega (arith, long))

-- ---- watches in order

head_from : (n : List ℕ) (w : Watch) (ws : List Watch) → NoneBefore n (w ∷ ws) → is_le (order n w.name) ≡ true
head_from n w ws h = (and_parts (is_le (order n w.name)) (list_all (λ (v : Watch). is_le (order n v.name)) ws) h).0

tail_from : (n : List ℕ) (w : Watch) (ws : List Watch) → NoneBefore n (w ∷ ws) → NoneBefore n ws
tail_from n w ws h = (and_parts (is_le (order n w.name)) (list_all (λ (v : Watch). is_le (order n v.name)) ws) h).1

more_from : (n : List ℕ) (w : Watch) (ws : List Watch) → is_le (order n w.name) ≡ true → NoneBefore n ws
    → NoneBefore n (w ∷ ws)
more_from n w ws e h = rw (e, h) refl

at_from : (n : List ℕ) (ws : List Watch) (i : ℕ) (d : Watch) → NoneBefore n ws → i < length ws
    → is_le (order n (get_or ws i d).name) ≡ true
at_from n [] i d h lt = absurd (omega (arith, lt))
at_from n (w ∷ ws) zero d h lt = head_from n w ws h
at_from n (w ∷ ws) (suc i) d h lt = at_from n ws i d (tail_from n w ws h) (omega (arith, lt))

in_order : (ws : List Watch) (i j : ℕ) (d : Watch) → AreInOrder ws → i ≤ j → j < length ws
    → is_le (order (get_or ws i d).name (get_or ws j d).name) ≡ true
in_order [] i j d h le lt = absurd (omega (arith, lt))
in_order (w ∷ ws) zero zero d h le lt = ap is_le (order_own w.name)
in_order (w ∷ ws) zero (suc j) d h le lt = at_from w.name ws j d h.0 (omega (arith, lt))
in_order (w ∷ ws) (suc i) zero d h le lt = absurd (omega (arith, le))
in_order (w ∷ ws) (suc i) (suc j) d h le lt = in_order ws i j d h.1 (omega (arith, le)) (omega (arith, lt))

abbrev pub comes_before : List ℕ → Watch → Bool
comes_before name w = is_lt (order w.name name)

abbrev pub comes_up_to : List ℕ → Watch → Bool
comes_up_to name w = is_le (order w.name name)

abbrev pub is_of : List ℕ → Watch → Bool
is_of name w = bytes_eq w.name name

pub parted_before : (ws : List Watch) (name : List ℕ) → AreInOrder ws → IsPartitionedBy (comes_before name) ws
parted_before ws name h i j d le lt e = le_lt (get_or ws i d).name (get_or ws j d).name name
    (in_order ws i j d h le lt) e

pub parted_up_to : (ws : List Watch) (name : List ℕ) → AreInOrder ws → IsPartitionedBy (comes_up_to name) ws
parted_up_to ws name h i j d le lt e = le_le (get_or ws i d).name (get_or ws j d).name name
    (in_order ws i j d h le lt) e

-- Behind those of lesser names come those of the name, and then no more of them.
of_case : (ws : List Watch) (name : List ℕ) (i j : ℕ) (d : Watch) → AreInOrder ws → i ≤ j → j < length ws
    → comes_before name (get_or ws i d) ≡ false → is_of name (get_or ws j d) ≡ true → is_of name (get_or ws i d) ≡ true
of_case ws name i j d h le lt low e =
    between (get_or ws i d).name name low
    (rw (same_bytes (get_or ws j d).name name e) at (in_order ws i j d h le lt))

pub parted_of : (ws : List Watch) (name : List ℕ) (n : ℕ) → AreInOrder ws
    → AllWithin (λ w. comes_before name w ≡ false) ws n (length ws) → IsPartitionedBy (is_of name) (drop n ws)
parted_of ws name n h low i j d le lt e =
    let lt' : n + j < length ws = let long = length-drop n ws in omega (arith, lt, long) in
    let at_i = get_or-drop n ws i d in
    let at_j = get_or-drop n ws j d in
    let r = of_case ws name (n + i) (n + j) d h (omega (arith, le)) lt' (low (n + i) d (omega arith) (omega
    (arith, le, lt'))) (subst (λ (w : Watch). is_of name w ≡ true) at_j e) in
    subst (λ (w : Watch). is_of name w ≡ true) (sym at_i) r

pub watchers_rest : (ws : List Watch) (name : List ℕ) (n : ℕ) → n ≤ length ws
    → AllWithin (λ w. comes_before name w ≡ true) ws 0 n → watchers_in (drop n ws) name ≡ watchers_in ws name
watchers_rest ws name n le h = filter_rest (is_of name) ws n le (λ k d a b. before_apart (get_or ws k d).name name
    (h k d a b))

-- ---- one more watch

from_insert : (n : List ℕ) (ws : List Watch) (i : ℕ) (w : Watch) → NoneBefore n ws → is_le (order n w.name) ≡ true
    → NoneBefore n (insert ws i w)
from_insert n [] zero w h e = more_from n w [] e refl
from_insert n [] (suc i) w h e = more_from n w [] e refl
from_insert n (x ∷ xs) zero w h e = more_from n w (x ∷ xs) e h
from_insert n (x ∷ xs) (suc i) w h e = more_from n x (insert xs i w) (head_from n x xs h) (from_insert n xs i w
    (tail_from n x xs h) e)

none_before : (name : List ℕ) (ws : List Watch) → AllWithin (λ w. comes_up_to name w ≡ false) ws 0 (length ws)
    → NoneBefore name ws
none_before name [] h = refl
none_before name (w ∷ ws) h =
    more_from name w ws (behind w.name name (h 0 w (omega arith) (omega arith))) (none_before name ws
    (λ k d a b. h (suc k) d (omega arith) (omega (arith, b))))

abbrev pub IsBehind : List Watch → List ℕ → ℕ → Type 0
IsBehind ws name i = IsPartitionPoint (λ w. comes_up_to name w ≡ true) (λ w. comes_up_to name w ≡ false) ws i

behind_tail : (w : Watch) (ws : List Watch) (name : List ℕ) (i : ℕ) → IsBehind (w ∷ ws) name (suc i)
    → IsBehind ws name i
behind_tail w ws name i h = (
  (λ k d a b. h.0 (suc k) d (omega arith) (omega (arith, b))),
  (λ k d a b. h.1
      (suc k) d (omega (arith, a)) (omega (arith, b))),
)

pub ordered_insert : (ws : List Watch) (i : ℕ) (w : Watch) → AreInOrder ws → i ≤ length ws → IsBehind ws w.name i
    → AreInOrder (insert ws i w)
ordered_insert ws zero w h le at = (none_before w.name ws at.1, h)
ordered_insert [] (suc i) w h le at = absurd (omega (arith, le))
ordered_insert (x ∷ xs) (suc i) w h le at = (
  from_insert x.name xs i w h.0 (at.0 0 x (omega arith) (omega arith)),
  ordered_insert xs i w h.1 (omega (arith, le)) (behind_tail x xs w.name i at),
)

-- A watch that is put behind all that pass a test, if it passes.
insert_yes : (p : Watch → Bool) (ws : List Watch) (i : ℕ) (w : Watch) → p w ≡ true → i ≤ length ws
    → AllWithin (λ x. p x ≡ false) ws i (length ws) → filter p (insert ws i w) ≡ filter p ws ++ w ∷ []
insert_yes p ws zero w e le h = rw (e, filter_empty p ws h) refl
insert_yes p [] (suc i) w e le h = absurd (omega (arith, le))
insert_yes p (x ∷ xs) (suc i) w e le h =
    let r = insert_yes p xs i w e (omega (arith, le)) (λ k d a b. h (suc k) d (omega (arith, a)) (omega (arith, b))) in
    elim (p x) as (λ b. (if b then x ∷ filter p (insert xs i w) else filter p (insert xs i w))
    ≡ (if b then x ∷ filter p xs else filter p xs) ++ w ∷ []) [ true ↦ ap (λ ys. x ∷ ys) r | false ↦ r ]

insert_no : (p : Watch → Bool) (ws : List Watch) (i : ℕ) (w : Watch) → p w ≡ false
    → filter p (insert ws i w) ≡ filter p ws
insert_no p ws zero w e = rw e refl
insert_no p [] (suc i) w e = rw e refl
insert_no p (x ∷ xs) (suc i) w e =
    let r = insert_no p xs i w e in
    elim (p x) as (λ b. (if b then x ∷ filter p (insert xs i w) else filter p (insert xs i w))
    ≡ (if b then x ∷ filter p xs else filter p xs)) [ true ↦ ap (λ ys. x ∷ ys) r | false ↦ r ]

pub watchers_insert : (ws : List Watch) (i : ℕ) (w : Watch) (q : List ℕ) → i ≤ length ws → IsBehind ws w.name i
    → watchers_in (insert ws i w) q ≡ watchers_in ws q ++ filter (λ (x : Watch). bytes_eq x.name q) (w ∷ [])
watchers_insert ws i w q le at =
    elim (bytes_eq w.name q) as (λ b. bytes_eq w.name q ≡ b → watchers_in (insert ws i w) q
    ≡ watchers_in ws q ++ (if b then w ∷ [] else [])) [
      | true ↦ λ e. insert_yes (is_of q) ws i w e le
          (λ k d a b. rw (← same_bytes w.name q e) (behind_apart (get_or ws k d).name w.name (at.1 k d a b)))
      | false ↦ λ e. insert_no (is_of q) ws i w e ∙ sym (append-nil (watchers_in ws q))
    ] refl

-- ---- watches that stay

from_kept : (p : Watch → Bool) (n : List ℕ) (ws : List Watch) → NoneBefore n ws → NoneBefore n (filter p ws)
from_kept p n [] h = refl
from_kept p n (w ∷ ws) h =
    let i = from_kept p n ws (tail_from n w ws h) in
    elim (p w) as (λ b. NoneBefore n (if b then w ∷ filter p ws else filter p ws))
    [ true ↦ more_from n w (filter p ws) (head_from n w ws h) i | false ↦ i ]

pub ordered_kept : (p : Watch → Bool) (ws : List Watch) → AreInOrder ws → AreInOrder (filter p ws)
ordered_kept p [] h = tt
ordered_kept p (w ∷ ws) h =
    let i = ordered_kept p ws h.1 in
    elim (p w) as (λ b. AreInOrder (if b then w ∷ filter p ws else filter p ws))
    [ true ↦ (from_kept p w.name ws h.0, i) | false ↦ i ]

pub not_behind : (o : Ordering) → not (is_gt o) ≡ is_le o
not_behind Less = refl
not_behind _ = refl
