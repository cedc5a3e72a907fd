-- What slots say of a client's holdings, and how they follow a grant and a release.
use Rattle.std.proofs.Common.{inl, inr, ◌≡◌, ℕ, zero, suc, ◌+◌, ◌-◌, ◌≤◌, ◌<◌, Bool, true, false, ◌||◌, ◌==◌, [], ◌∷◌}
use Rattle.std.proofs.Common.{refl, ap, sym, ◌∙◌, subst, length, Option, Some, None, if◌then◌else◌, arith}
use Rattle.std.specs.Prelude.{is_some, is_none, cond, nat_le, unwrap_or, MatchOption}
use Rattle.std.specs.List.{list_any, find, range_with_len}
use Rattle.std.proofs.lemmas.Bool.{true≢false, cases_lt}
use Rattle.std.proofs.lemmas.Bool.Decides.{nat_tests}
use Rattle.std.proofs.lemmas.List.Sums.{sum_by-cons}
use Rattle.sm_values.specs.declared.number.Node.{Node}
use Rattle.sm_history.specs.Effects.{Effects, same_node}
use Rattle.sm_history.specs.Holdings.{refs_at, number_at, node_at, is_held, held_nodes, free_number, given_nodes}
use Rattle.sm_history.specs.Sound.{HasOneEach}
use Rattle.sm_history.proofs.Balanced.{node_same, number_same}
use Rattle.sm_history.proofs.Grants.{same_self, IsDistinct, given_distinct}
use Rattle.sm_history.proofs.HeldAlike.{node_is, node_held, fewer, distinct_filter, among_held, held_among}
use Rattle.sm_history.specs.declared.held.Held.{Held}
use Rattle.sm_history.specs.Tables.{Slots, slot, IsPut, released_slot}
use Rattle.sm_grants.specs.Slots.{node_of, held_in, nodes_in, is_in, IsAbsent, IsFirstFree, granted_slot}
use Rattle.sm_grants.specs.Tracking.{AreTracked, TracksSlots}
use Rattle.sm_grants.proofs.Indexed.{taken_front}
use Rattle.sm_grants.proofs.Small.{some_node, left_over, test_lt, lt_test}

some_held : (n m : Held) → (let a : Option Held = Some n in a ≡ Some m) → n ≡ m
some_held n m h = cc

pub some_slot : (o : Option Held) (n : Node) → node_of o ≡ Some n → (h : Held) × (o ≡ Some h) × (h.node ≡ n)
some_slot None n e = cc
some_slot (Some h) n e = (h, refl, some_node h.node n e)

-- ---- what is found

pub not_held : (refs num : Node → ℕ) (s : Slots) (n : Node) → AreTracked refs num s → IsAbsent s n → refs n ≡ 0
not_held refs num s n t absent =
    elim (cases_lt 0 (refs n)) [
      | inl lt ↦ absurd (absent (num n - 1) (t.found n lt))
      | inr le ↦ omega arith
    ]

pub held_some : (refs num : Node → ℕ) (s : Slots) (i : ℕ) (n : Node) → AreTracked refs num s
    → node_of (slot s i) ≡ Some n → (0 < refs n) × (num n ≡ i + 1)
held_some refs num s i n t e =
    let h = some_slot (slot s i) n e in
    let w = t.held i h.0 h.1 in
    let count : refs h.0.node ≡ h.0.count = w.0 in
    let some : 0 < refs h.0.node = omega (arith, w.1, count) in
    (subst (λ (v : Node). 0 < refs v) h.2 some, subst (λ (v : Node). num v ≡ i + 1) h.2 w.2)

-- ---- after a grant

record Place (s : Slots) (n : Node) (i : ℕ) : Type 0 where
  other : (m : Node) → node_of (slot s i) ≡ Some m → m ≡ n
  only : (j : ℕ) → node_of (slot s j) ≡ Some n → j ≡ i
  made : node_of (granted_slot n (slot s i)) ≡ Some n

gives_held : (refs num refs' num' : Node → ℕ) (s t : Slots) (n : Node) (i j : ℕ) (h : Held) (o : Option Held)
    (b u : Bool)
    → AreTracked refs num s → (IsAbsent s n → refs n ≡ 0) → ((m : Node) → node_of (slot s i) ≡ Some m → m ≡ n)
    → ((k : ℕ) → node_of (slot s k) ≡ Some n → k ≡ i) → (o ≡ None → IsAbsent s n) → slot s i ≡ o → (j == i) ≡ b
    → same_node n h.node ≡ u → (if b then granted_slot n o else slot s j) ≡ Some h
    → refs' h.node ≡ (if u then refs h.node + 1 else refs h.node) → num' h.node ≡ (if u then i + 1 else num h.node)
    → (refs' h.node ≡ h.count) × (0 < h.count) × (num' h.node ≡ j + 1)
gives_held refs num refs' num' s t n i j h None true true a zero_if other only absent e eb eu is er en =
    let same = number_same j i eb in
    let made : record { node = n; count = 1 } ≡ h = some_held _ h is in
    let count : 1 ≡ h.count = ap (λ (x : Held). x.count) made in
    let node = node_same n h.node eu in
    let none : refs h.node ≡ 0 = subst (λ (v : Node). refs v ≡ 0) node (zero_if (absent refl)) in
    (omega (arith, er, none, count), omega (arith, count), omega (arith, en, same))
gives_held refs num refs' num' s t n i j h (Some x) true true a zero_if other only absent e eb eu is er en =
    let same = number_same j i eb in
    let made : record { node = x.node; count = x.count + 1 } ≡ h = some_held _ h is in
    let count : x.count + 1 ≡ h.count = ap (λ (y : Held). y.count) made in
    let node : x.node ≡ h.node = ap (λ (y : Held). y.node) made in
    let w = a.held i x e in
    let was : refs h.node ≡ x.count = subst (λ (v : Node). refs v ≡ x.count) node w.0 in
    (omega (arith, er, was, count), omega (arith, count), omega (arith, en, same))
gives_held refs num refs' num' s t n i j h None true false a zero_if other only absent e eb eu is er en =
    let made : record { node = n; count = 1 } ≡ h = some_held _ h is in
    let node : n ≡ h.node = ap (λ (y : Held). y.node) made in
    absurd (true≢false (sym (same_self n) ∙ subst (λ (v : Node). same_node n v ≡ false) (sym node) eu))
gives_held refs num refs' num' s t n i j h (Some x) true false a zero_if other only absent e eb eu is er en =
    let made : record { node = x.node; count = x.count + 1 } ≡ h = some_held _ h is in
    let node : x.node ≡ h.node = ap (λ (y : Held). y.node) made in
    let own : x.node ≡ n = other x.node (ap (λ (y : Option Held). node_of y) e) in
    absurd (true≢false (sym (same_self n) ∙ subst (λ (v : Node). same_node n v ≡ false) (sym node ∙ own) eu))
gives_held refs num refs' num' s t n i j h o false true a zero_if other only absent e eb eu is er en =
    let node = node_same n h.node eu in
    let at : j ≡ i = only j (ap (λ (y : Option Held). node_of y) is ∙ ap (λ (v : Node). Some v) (sym node)) in
    absurd (grind (arith, nat_tests))
gives_held refs num refs' num' s t n i j h o false false a zero_if other only absent e eb eu is er en =
    let w = a.held j h is in
    (er ∙ w.0, w.1, en ∙ w.2)

gives_found : (refs num refs' num' : Node → ℕ) (s t : Slots) (n : Node) (i : ℕ) (m : Node) (u : Bool)
    → AreTracked refs num s → ((m : Node) → node_of (slot s i) ≡ Some m → m ≡ n)
    → node_of (granted_slot n (slot s i)) ≡ Some n → IsPut s t i (granted_slot n (slot s i)) → same_node n m ≡ u
    → refs' m ≡ (if u then refs m + 1 else refs m) → num' m ≡ (if u then i + 1 else num m) → 0 < refs' m
    → node_of (slot t (num' m - 1)) ≡ Some m
gives_found refs num refs' num' s t n i m true a other made put eu er en h =
    let at : num' m - 1 ≡ i = omega (arith, en) in
    let e : (i == i) ≡ true = grind (arith, nat_tests) in
    let there : slot t i ≡ granted_slot n (slot s i) = put i ∙ rw e refl in
    ap (λ (v : ℕ). node_of (slot t v)) at ∙ ap (λ (y : Option Held). node_of y) there ∙ made ∙
    ap (λ (v : Node). Some v) (node_same n m eu)
gives_found refs num refs' num' s t n i m false a other made put eu er en h =
    let some : 0 < refs m = omega (arith, er, h) in
    let was = a.found m some in
    let at : num' m - 1 ≡ num m - 1 = omega (arith, en) in
    ap (λ (v : ℕ). node_of (slot t v)) at
    ∙ ap (λ (y : Option Held). node_of y) (put (num m - 1))
    ∙ elim (num m - 1 == i) as (λ b. (num m - 1 == i) ≡ b →
    node_of (if b then granted_slot n (slot s i) else slot s (num m - 1)) ≡ Some m) [
      | true ↦ λ e.
          let same = number_same (num m - 1) i e in
          let own : m ≡ n = other m (subst (λ (v : ℕ). node_of (slot s v) ≡ Some m) same was) in
          absurd (true≢false (sym (same_self n) ∙ subst (λ (v : Node). same_node n v ≡ false) own eu))
      | false ↦ λ e. was
    ] refl

pub tracked_gives : (refs num refs' num' : Node → ℕ) (s t : Slots) (n : Node) (i : ℕ) → AreTracked refs num s
    → ((m : Node) → node_of (slot s i) ≡ Some m → m ≡ n) → (slot s i ≡ None → IsAbsent s n)
    → IsPut s t i (granted_slot n (slot s i)) → ((m : Node) → refs' m ≡ (if same_node n m then refs m + 1 else refs m))
    → ((m : Node) → num' m ≡ (if same_node n m then i + 1 else num m)) → AreTracked refs' num' t
tracked_gives refs num refs' num' s t n i a other absent put er en =
    let only : (k : ℕ) → node_of (slot s k) ≡ Some n → k ≡ i = λ k e. let w = held_some refs num s k n a e in
    elim (slot s i) as (λ o. slot s i ≡ o → k ≡ i) [
      | None ↦ λ f. absurd (absent f k e)
      | Some x ↦ λ f.
          let own : x.node ≡ n = other x.node (ap (λ (y : Option Held). node_of y) f) in
          let v = held_some refs num s i n a (ap (λ (y : Option Held). node_of y) f ∙ ap (λ (v : Node). Some v) own) in
          omega (arith, w.1, v.1)
    ] refl in
    let made : node_of (granted_slot n (slot s i)) ≡ Some n =
    elim (slot s i) as (λ o. slot s i ≡ o → node_of (granted_slot n o) ≡ Some n) [
      | None ↦ λ f. refl
      | Some x ↦ λ f. ap (λ (v : Node). Some v) (other x.node (ap (λ (y : Option Held). node_of y) f))
    ] refl in
    record {
      held = λ j h is. gives_held refs num refs' num' s t n i j h (slot s i) (j == i) (same_node n h.node) a
          (λ none. not_held refs num s n a none) other only absent refl refl refl (sym (put j) ∙ is) (er h.node)
          (en h.node);
      found = λ m h. gives_found refs num refs' num' s t n i m (same_node n m) a other made put refl (er m) (en m) h;
    }

-- ---- after a release

released_held : (x h : Held) (b : Bool) → nat_le x.count 1 ≡ b
    → (if b then None else Some (record { node = x.node; count = x.count - 1 })) ≡ Some h
    → (h.node ≡ x.node) × (h.count ≡ x.count - 1) × (1 < x.count)
released_held x h true e is = cc
released_held x h false e is =
    let made : record { node = x.node; count = x.count - 1 } ≡ h = some_held _ h is in
    (sym (ap (λ (y : Held). y.node) made), sym (ap (λ (y : Held). y.count) made), grind (arith, nat_tests))

releases_held : (refs num refs' : Node → ℕ) (s : Slots) (x : Held) (i j : ℕ) (h : Held) (b u : Bool)
    → AreTracked refs num s → slot s i ≡ Some x → (j == i) ≡ b → same_node x.node h.node ≡ u
    → (if b then released_slot (Some x) else slot s j) ≡ Some h
    → refs' h.node ≡ (if u then refs h.node - 1 else refs h.node)
    → (refs' h.node ≡ h.count) × (0 < h.count) × (num h.node ≡ j + 1)
releases_held refs num refs' s x i j h true true a at eb eu is er =
    let same = number_same j i eb in
    let r = released_held x h (nat_le x.count 1) refl is in
    let w = a.held i x at in
    let was : refs h.node ≡ x.count = subst (λ (v : Node). refs v ≡ x.count) (sym r.0) w.0 in
    let num_is : num h.node ≡ i + 1 = subst (λ (v : Node). num v ≡ i + 1) (sym r.0) w.2 in
    let count = r.1 in let more = r.2 in
    (omega (arith, er, was, count), omega (arith, count, more), omega (arith, num_is, same))
releases_held refs num refs' s x i j h true false a at eb eu is er =
    let r = released_held x h (nat_le x.count 1) refl is in
    absurd (true≢false (sym (same_self x.node) ∙ subst (λ (v : Node). same_node x.node v ≡ false) r.0 eu))
releases_held refs num refs' s x i j h false true a at eb eu is er =
    let node = node_same x.node h.node eu in
    let w = a.held i x at in
    let v = a.held j h is in
    let e : num h.node ≡ i + 1 = subst (λ (y : Node). num y ≡ i + 1) node w.2 in
    let f = v.2 in
    let same : j ≡ i = omega (arith, e, f) in
    absurd (grind (arith, nat_tests))
releases_held refs num refs' s x i j h false false a at eb eu is er = let w = a.held j h is in (er ∙ w.0, w.1, w.2)

releases_found : (refs num refs' : Node → ℕ) (s t : Slots) (x : Held) (i : ℕ) (m : Node) (u : Bool)
    → AreTracked refs num s → slot s i ≡ Some x → IsPut s t i (released_slot (Some x)) → same_node x.node m ≡ u
    → refs' m ≡ (if u then refs m - 1 else refs m) → 0 < refs' m → node_of (slot t (num m - 1)) ≡ Some m
releases_found refs num refs' s t x i m true a at put eu er h =
    let node = node_same x.node m eu in
    let w = a.held i x at in
    let was : refs m ≡ x.count = subst (λ (v : Node). refs v ≡ x.count) node w.0 in
    let num_is : num m ≡ i + 1 = subst (λ (v : Node). num v ≡ i + 1) node w.2 in
    let place : num m - 1 ≡ i = omega (arith, num_is) in
    let e : (i == i) ≡ true = grind (arith, nat_tests) in
    let there : slot t i ≡ released_slot (Some x) = put i ∙ rw e refl in
    ap (λ (v : ℕ). node_of (slot t v)) place ∙ ap (λ (y : Option Held). node_of y) there ∙
    left_over x (nat_le x.count 1) refl (omega (arith, er, h, was)) ∙ ap (λ (v : Node). Some v) node
releases_found refs num refs' s t x i m false a at put eu er h =
    let some : 0 < refs m = omega (arith, er, h) in
    let was = a.found m some in
    ap (λ (y : Option Held). node_of y) (put (num m - 1))
    ∙ elim (num m - 1 == i) as (λ b. (num m - 1 == i) ≡ b →
    node_of (if b then released_slot (Some x) else slot s (num m - 1)) ≡ Some m) [
      | true ↦ λ e.
          let same = number_same (num m - 1) i e in
          let here : node_of (slot s i) ≡ Some m = subst (λ (v : ℕ). node_of (slot s v) ≡ Some m) same was in
          let own : x.node ≡ m = some_node x.node m (sym (ap (λ (y : Option Held). node_of y) at) ∙ here) in
          absurd (true≢false (sym (same_self x.node) ∙ subst (λ (v : Node). same_node x.node v ≡ false) (sym own) eu))
      | false ↦ λ e. was
    ] refl

pub tracked_releases : (refs num refs' num' : Node → ℕ) (s t : Slots) (x : Held) (i : ℕ) → AreTracked refs num s
    → slot s i ≡ Some x → IsPut s t i (released_slot (Some x))
    → ((m : Node) → refs' m ≡ (if same_node x.node m then refs m - 1 else refs m)) → ((m : Node) → num' m ≡ num m)
    → AreTracked refs' num' t
tracked_releases refs num refs' num' s t x i a at put er en = record {
  held = λ j h is.
      let w = releases_held refs num refs' s x i j h (j == i) (same_node x.node h.node) a at refl refl
      (sym (put j) ∙ is) (er h.node) in
      (w.0, w.1, en h.node ∙ w.2);
  found = λ m h.
      ap (λ (v : ℕ). node_of (slot t (v - 1))) (en m)
      ∙ releases_found refs num refs' s t x i m (same_node x.node m) a at put refl (er m) h;
}

-- ---- where nothing changed, and where nothing is held

pub tracked_same : (refs num refs' num' : Node → ℕ) (s : Slots) → ((m : Node) → refs' m ≡ refs m)
    → ((m : Node) → num' m ≡ num m) → AreTracked refs num s → AreTracked refs' num' s
tracked_same refs num refs' num' s er en a = record {
  held = λ i h is. let w = a.held i h is in (er h.node ∙ w.0, w.1, en h.node ∙ w.2);
  found = λ m h. ap (λ (v : ℕ). node_of (slot s (v - 1))) (en m) ∙ a.found m (subst (λ (v : ℕ). 0 < v) (er m) h);
}

pub tracked_none : (refs num : Node → ℕ) → ((m : Node) → refs m ≡ 0) → AreTracked refs num []
tracked_none refs num none = record {
  held = λ i h is. cc;
  found = λ m h. let z = none m in absurd (omega (arith, z, h));
}

-- ---- in the words of the definitions

pub one_each : (d : Effects) (c : ℕ) (s : Slots) → TracksSlots d c s → HasOneEach d c
one_each d c s t n m hn hm same =
    let a = t.found n (test_lt (refs_at d c n) hn) in
    let b = t.found m (test_lt (refs_at d c m) hm) in
    some_node n m (sym a ∙ ap (λ (v : ℕ). node_of (slot s (v - 1))) same ∙ b)

pub node_is_slot : (d : Effects) (c : ℕ) (s : Slots) (i : ℕ) → TracksSlots d c s
    → node_at d c (i + 1) ≡ node_of (slot s i)
node_is_slot d c s i t =
    elim (node_of (slot s i)) as (λ o. node_of (slot s i) ≡ o → node_at d c (i + 1) ≡ o) [
      | Some n ↦ λ e. let w = held_some (refs_at d c) (number_at d c) s i n t e in
          node_is d c (i + 1) n (one_each d c s t) (lt_test (refs_at d c n) w.0) w.1
      | None ↦ λ e. elim (node_at d c (i + 1)) as (λ o. node_at d c (i + 1) ≡ o → o ≡ None) [
        | None ↦ λ f. refl
        | Some m ↦ λ f.
            let h = node_held d c (i + 1) m f in
            let there = t.found m (test_lt (refs_at d c m) h.0) in
            let num_is = h.1 in
            let at : number_at d c m - 1 ≡ i = omega (arith, num_is) in
            let here : node_of (slot s i) ≡ Some m = subst (λ (v : ℕ). node_of (slot s v) ≡ Some m) at there in
            cc
      ] refl
    ] refl

pub node_zero : (d : Effects) (c : ℕ) (s : Slots) → TracksSlots d c s → node_at d c 0 ≡ None
node_zero d c s t =
    elim (node_at d c 0) as (λ o. node_at d c 0 ≡ o → o ≡ None) [
      | None ↦ λ f. refl
      | Some m ↦ λ f.
          let h = node_held d c 0 m f in
          let there = t.found m (test_lt (refs_at d c m) h.0) in
          let w = held_some (refs_at d c) (number_at d c) s (number_at d c m - 1) m t there in
          let a = w.1 in let b = h.1 in
          absurd (omega (arith, a, b))
    ] refl

-- ---- counts

as_many : (s : Slots) → length (nodes_in s) ≡ held_in s
as_many [] = refl
as_many (None ∷ s) = let c = sum_by-cons (λ (y : Option Held). cond (is_some y) 1 0) None s in let i = as_many s in
    omega (arith, c, i)
as_many (Some h ∷ s) = let c = sum_by-cons (λ (y : Option Held). cond (is_some y) 1 0) (Some h) s in let i =
    as_many s in omega (arith, c, i)

pub among_slot : (s : Slots) (n : Node) → list_any (same_node n) (nodes_in s) ≡ true
    → (i : ℕ) × (node_of (slot s i) ≡ Some n)
among_slot [] n h = absurd (true≢false (sym h))
among_slot (None ∷ s) n h = let w = among_slot s n h in (suc w.0, w.1)
among_slot (Some x ∷ s) n h =
    elim (same_node n x.node) as (λ b. same_node n x.node ≡ b → (b || list_any (same_node n) (nodes_in s)) ≡ true →
    (i : ℕ) × (node_of (slot (Some x ∷ s) i) ≡ Some n)) [
      | true ↦ λ e f. (0, ap (λ (v : Node). Some v) (sym (node_same n x.node e)))
      | false ↦ λ e f. let w = among_slot s n f in (suc w.0, w.1)
    ] refl h

pub slot_among : (s : Slots) (i : ℕ) (n : Node) → node_of (slot s i) ≡ Some n
    → list_any (same_node n) (nodes_in s) ≡ true
slot_among [] i n h = cc
slot_among (None ∷ s) zero n h = cc
slot_among (Some x ∷ s) zero n h = let same = some_node x.node n h in
    rw (subst (λ (v : Node). same_node n v ≡ true) (sym same) (same_self n)) refl
slot_among (None ∷ s) (suc i) n h = slot_among s i n h
slot_among (Some x ∷ s) (suc i) n h =
    let w = slot_among s i n h in
    elim (same_node n x.node) as (λ b. (b || list_any (same_node n) (nodes_in s)) ≡ true) [ true ↦ refl | false ↦ w ]

abbrev AreApart : Slots → Type 0
AreApart s = (i j : ℕ) (n : Node) → node_of (slot s i) ≡ Some n → node_of (slot s j) ≡ Some n → i ≡ j

distinct_in : (s : Slots) → AreApart s → IsDistinct (nodes_in s)
distinct_in [] a = tt
distinct_in (None ∷ s) a = distinct_in s (λ i j n p q. let e = a (suc i) (suc j) n p q in omega (arith, e))
distinct_in (Some x ∷ s) a = (
  elim (list_any (same_node x.node) (nodes_in s)) as (λ b. list_any (same_node x.node) (nodes_in s) ≡ b → b ≡ false) [
    | false ↦ λ e. refl
    | true ↦ λ e. let w = among_slot s x.node e in let f = a 0 (suc w.0) x.node refl w.1 in absurd (omega (arith, f))
  ] refl,
  distinct_in s (λ i j n p q. let e = a (suc i) (suc j) n p q in omega (arith, e)),
)

pub held_count : (d : Effects) (c : ℕ) (s : Slots) → TracksSlots d c s → length (held_nodes d c) ≡ held_in s
held_count d c s t =
    let apart : AreApart s = λ i j n p q.
    let v = held_some (refs_at d c) (number_at d c) s i n t p in
    let w = held_some (refs_at d c) (number_at d c) s j n t q in
    let e = v.1 in let f = w.1 in omega (arith, e, f) in
    let there : (n : Node) → list_any (same_node n) (held_nodes d c) ≡ true →
    list_any (same_node n) (nodes_in s) ≡ true =
    λ n h. slot_among s (number_at d c n - 1) n (t.found n (test_lt (refs_at d c n) (among_held d c n h))) in
    let back : (n : Node) → list_any (same_node n) (nodes_in s) ≡ true →
    list_any (same_node n) (held_nodes d c) ≡ true =
    λ n h. let w = among_slot s n h in let v = held_some (refs_at d c) (number_at d c) s w.0 n t w.1 in
    held_among d c n (lt_test (refs_at d c n) v.0) in
    let a = fewer (held_nodes d c) (nodes_in s) (distinct_filter (is_held d c) (given_nodes d c) (given_distinct d c))
    there in
    let b = fewer (nodes_in s) (held_nodes d c) (distinct_in s apart) back in
    let m = as_many s in
    omega (arith, a, b, m)

-- ---- the least free number

find_first : (p : ℕ → Bool) (n a k : ℕ) → ((r : ℕ) → a ≤ r → r < a + n → p r ≡ false) → p (a + n) ≡ true → n < k
    → find p (range_with_len a k) ≡ Some (a + n)
find_first p zero a zero below here lt = absurd (omega (arith, lt))
find_first p zero a (suc k) below here lt = let e : a + 0 ≡ a = omega arith in let h : p a ≡ true =
    subst (λ (v : ℕ). p v ≡ true) e here in rw (h, e) refl
find_first p (suc n) a zero below here lt = absurd (omega (arith, lt))
find_first p (suc n) a (suc k) below here lt =
    let no : p a ≡ false = below a (omega arith) (omega arith) in
    let e : (a + 1) + n ≡ a + suc n = omega arith in
    rw no (find_first p n (a + 1) k (λ r ge less. below r (omega (arith, ge)) (omega (arith, less)))
    (subst (λ (v : ℕ). p v ≡ true) (sym e) here) (omega (arith, lt)) ∙ ap (λ (v : ℕ). Some v) e)

some_of : (o : Option Held) → is_some o ≡ true → is_none (node_of o) ≡ false
some_of None h = absurd (true≢false (sym h))
some_of (Some h) e = refl

pub free_is : (d : Effects) (c : ℕ) (s : Slots) (i : ℕ) → TracksSlots d c s → IsFirstFree s i → free_number d c ≡ i + 1
free_is d c s i t first =
    let p : ℕ → Bool = λ r. is_none (node_at d c r) in
    let many = held_count d c s t in
    let front = taken_front i s first.1 in
    let free : p (1 + i) ≡ true = (let e : 1 + i ≡ i + 1 = omega arith in
    ap p e ∙ ap (λ (o : Option Node). is_none o) (node_is_slot d c s i t) ∙
    ap (λ (o : Option Held). is_none (node_of o)) first.0) in
    let below : (r : ℕ) → 1 ≤ r → r < 1 + i → p r ≡ false = λ r ge lt.
    (let e : r ≡ (r - 1) + 1 = omega (arith, ge) in
    ap p e ∙ ap (λ (o : Option Node). is_none o) (node_is_slot d c s (r - 1) t) ∙
    some_of (slot s (r - 1)) (first.1 (r - 1) (omega (arith, ge, lt)))) in
    ap (λ (o : Option ℕ). unwrap_or o 0)
    (find_first p i 1 (length (held_nodes d c) + 1) below free (omega (arith, many, front)))
    ∙ (let e : 1 + i ≡ i + 1 = omega arith in e)

pub held_slot : (d : Effects) (c : ℕ) (s : Slots) (i : ℕ) (n : Node) → TracksSlots d c s → node_of (slot s i) ≡ Some n
    → is_held d c n ≡ true
held_slot d c s i n t e = lt_test (refs_at d c n) ((held_some (refs_at d c) (number_at d c) s i n t e).0)

-- The slots have the objects that are held.
pub held_is_in : (d : Effects) (c : ℕ) (s : Slots) (n : Node) → TracksSlots d c s → is_held d c n ≡ is_in s n
held_is_in d c s n t =
    elim (is_in s n) as (λ b. is_in s n ≡ b → is_held d c n ≡ b) [
      | true ↦ λ e. let w = among_slot s n e in held_slot d c s w.0 n t w.1
      | false ↦ λ e. elim (is_held d c n) as (λ b. is_held d c n ≡ b → b ≡ false) [
        | false ↦ λ f. refl
        | true ↦ λ f. absurd (true≢false
            (sym (slot_among s (number_at d c n - 1) n (t.found n (test_lt (refs_at d c n) f))) ∙ e))
      ] refl
    ] refl

-- An object is in the slots where one of them has it.
pub in_slots : (s : Slots) (n : Node) (o : Option ℕ) → MatchOption o (IsAbsent s n) (λ i. node_of (slot s i) ≡ Some n)
    → is_some o ≡ is_in s n
in_slots s n (Some i) h = sym (slot_among s i n h)
in_slots s n None h =
    elim (is_in s n) as (λ b. is_in s n ≡ b → false ≡ b) [
      | true ↦ λ e. let w = among_slot s n e in absurd (h w.0 w.1)
      | false ↦ λ e. refl
    ] refl
