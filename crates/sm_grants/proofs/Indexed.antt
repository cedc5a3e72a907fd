-- What is kept beside the slots, after a change.
use Rattle.std.proofs.Common.{inl, inr, ◌≡◌, ℕ, zero, suc, ◌+◌, ◌≤◌, ◌<◌, Bool, true, false, not, ◌&&◌, ◌||◌, ◌==◌}
use Rattle.std.proofs.Common.{List, [], ◌∷◌, refl, ap, sym, ◌∙◌, subst, length, Option, Some, None, if◌then◌else◌}
use Rattle.std.proofs.Common.{arith}
use Rattle.std.specs.Prelude.{is_some, cond, nat_le, MatchOption, IfSome, IsOk, IfOk, OnOk, Result, Ok, Err}
use Rattle.std.proofs.lemmas.Bool.{true≢false, cases_lt}
use Rattle.std.proofs.lemmas.Bool.Decides.{nat_tests}
use Rattle.std.proofs.lemmas.List.{get_or_past}
use Rattle.std.proofs.lemmas.List.Sums.{sum_by-cons}
use Rattle.sm_values.specs.declared.number.Node.{Node}
use Rattle.sm_bits.specs.Bits.{has}
use Rattle.sm_history.specs.Effects.{same_node}
use Rattle.sm_history.proofs.Balanced.{node_same, number_same}
use Rattle.sm_history.proofs.Grants.{same_self}
use Rattle.sm_history.specs.declared.held.Held.{Held}
use Rattle.sm_history.specs.Tables.{Slots, slot, IsPut, released_slot}
use Rattle.sm_grants.specs.Slots.{node_of, held_in, key_of, same_key, AreIndexed, AreHandles}
use Rattle.sm_grants.specs.Slots.{IsAbsent, granted_slot, count_of}
use Rattle.sm_grants.proofs.Small.{some_node, none_some, no_node, left_over}

abbrev Nodes : Type 0
Nodes = ℕ → Option Node

abbrev Index : Type 0
Index = ℕ × ℕ → Option ℕ

some_number : (n m : ℕ) → (let a : Option ℕ = Some n in a ≡ Some m) → n ≡ m
some_number n m h = cc

-- What the slots have is the same object by object.
pub same_nodes : (p q : Nodes) (f g : Index) (words : List ℕ) → ((j : ℕ) → q j ≡ p j) → ((k : ℕ × ℕ) → g k ≡ f k)
    → AreIndexed p f words → AreIndexed q g words
same_nodes p q f g words same alike a = record {
  index = λ n i h. alike (key_of n) ∙ a.index n i (sym (same i) ∙ h);
  back = λ n i h. same i ∙ a.back n i (sym (alike (key_of n)) ∙ h);
  bits = λ j. a.bits j ∙ ap (λ (o : Option Node). is_some o) (sym (same j));
  room = a.room;
}

new_index : (p : Nodes) (f g : Index) (n : Node) (i : ℕ) (m : Node) (j : ℕ) (t u : Bool) → (j == i) ≡ t
    → same_node n m ≡ u → (f (key_of n) ≡ None) → ((k : Node) (l : ℕ) → p l ≡ Some k → f (key_of k) ≡ Some l)
    → g (key_of m) ≡ (if u then Some i else f (key_of m)) → (if t then Some n else p j) ≡ Some m → g (key_of m) ≡ Some j
new_index p f g n i m j true true et eu none index by h = by ∙ ap (λ (x : ℕ). Some x) (sym (number_same j i et))
new_index p f g n i m j true false et eu none index by h =
    let same = some_node n m h in
    absurd (true≢false (sym (same_self n) ∙ subst (λ (v : Node). same_node n v ≡ false) (sym same) eu))
new_index p f g n i m j false true et eu none index by h =
    let same = node_same n m eu in
    absurd (none_some (f (key_of m)) j (subst (λ (v : Node). f (key_of v) ≡ None) same none) (index m j h))
new_index p f g n i m j false false et eu none index by h = by ∙ index m j h

new_back : (p : Nodes) (f g : Index) (n : Node) (i : ℕ) (m : Node) (j : ℕ) (t u : Bool) → (j == i) ≡ t
    → same_node n m ≡ u → p i ≡ None → ((k : Node) (l : ℕ) → f (key_of k) ≡ Some l → p l ≡ Some k)
    → (if u then Some i else f (key_of m)) ≡ Some j → (if t then Some n else p j) ≡ Some m
new_back p f g n i m j true true et eu free back h = ap (λ (x : Node). Some x) (node_same n m eu)
new_back p f g n i m j false true et eu free back h =
    let same = some_number i j h in
    absurd (grind (arith, nat_tests))
new_back p f g n i m j true false et eu free back h =
    let same = number_same j i et in
    absurd (none_some (p j) m (subst (λ (v : ℕ). p v ≡ None) (sym same) free) (back m j h))
new_back p f g n i m j false false et eu free back h = back m j h

pub new_indexed : (p q : Nodes) (f g : Index) (words more : List ℕ) (n : Node) (i : ℕ) → p i ≡ None
    → f (key_of n) ≡ None → ((j : ℕ) → q j ≡ (if j == i then Some n else p j))
    → ((k : ℕ × ℕ) → g k ≡ (if same_key (key_of n) k then Some i else f k))
    → ((j : ℕ) → has more j ≡ ((j == i) || has words j)) → length more ≡ length words → AreIndexed p f words
    → AreIndexed q g more
new_indexed p q f g words more n i free none put by added long a = record {
  index = λ m j h. new_index p f g n i m j (j == i) (same_node n m) refl refl none a.index (by (key_of m))
      (sym (put j) ∙ h);
  back = λ m j h. put j ∙ new_back p f g n i m j (j == i) (same_node n m) refl refl free a.back
      (sym (by (key_of m)) ∙ h);
  bits = λ j. added j ∙ rw (a.bits j, put j)
      (elim (j == i) as (λ t. (t || is_some (p j)) ≡ is_some (if t then Some n else p j))
      [ true ↦ refl | false ↦ refl ]);
  room = long ∙ a.room;
}

last_index : (p : Nodes) (f g : Index) (n : Node) (i : ℕ) (m : Node) (j : ℕ) (t u : Bool) → (j == i) ≡ t
    → same_node n m ≡ u → p i ≡ Some n → ((k : Node) (l : ℕ) → p l ≡ Some k → f (key_of k) ≡ Some l)
    → g (key_of m) ≡ (if u then None else f (key_of m)) → (if t then None else p j) ≡ Some m → g (key_of m) ≡ Some j
last_index p f g n i m j true u et eu here index by h = cc
last_index p f g n i m j false true et eu here index by h =
    let same = node_same n m eu in
    let a = index n i here in
    let b : f (key_of n) ≡ Some j = subst (λ (v : Node). f (key_of v) ≡ Some j) (sym same) (index m j h) in
    let e : i ≡ j = some_number i j (sym a ∙ b) in
    absurd (grind (arith, nat_tests))
last_index p f g n i m j false false et eu here index by h = by ∙ index m j h

last_back : (p : Nodes) (f g : Index) (n : Node) (i : ℕ) (m : Node) (j : ℕ) (t u : Bool) → (j == i) ≡ t
    → same_node n m ≡ u → p i ≡ Some n → ((k : Node) (l : ℕ) → f (key_of k) ≡ Some l → p l ≡ Some k)
    → (if u then None else f (key_of m)) ≡ Some j → (if t then None else p j) ≡ Some m
last_back p f g n i m j t true et eu here back h = cc
last_back p f g n i m j true false et eu here back h =
    let same = number_same j i et in
    let b : p i ≡ Some m = subst (λ (v : ℕ). p v ≡ Some m) same (back m j h) in
    let e = some_node n m (sym here ∙ b) in
    absurd (true≢false (sym (same_self n) ∙ subst (λ (v : Node). same_node n v ≡ false) (sym e) eu))
last_back p f g n i m j false false et eu here back h = back m j h

pub last_indexed : (p q : Nodes) (f g : Index) (words less : List ℕ) (n : Node) (i : ℕ) → p i ≡ Some n
    → ((j : ℕ) → q j ≡ (if j == i then None else p j))
    → ((k : ℕ × ℕ) → g k ≡ (if same_key (key_of n) k then None else f k))
    → ((j : ℕ) → has less j ≡ (not (j == i) && has words j)) → length less ≡ length words → AreIndexed p f words
    → AreIndexed q g less
last_indexed p q f g words less n i here put by taken long a = record {
  index = λ m j h. last_index p f g n i m j (j == i) (same_node n m) refl refl here a.index (by (key_of m))
      (sym (put j) ∙ h);
  back = λ m j h. put j ∙ last_back p f g n i m j (j == i) (same_node n m) refl refl here a.back
      (sym (by (key_of m)) ∙ h);
  bits = λ j. taken j ∙ rw (a.bits j, put j)
      (elim (j == i) as (λ t. (not t && is_some (p j)) ≡ is_some (let o : Option Node = if t then None else p j in o))
      [ true ↦ refl | false ↦ refl ]);
  room = long ∙ a.room;
}

-- ---- counts

some_of : (o : Option Held) → is_some (node_of o) ≡ is_some o
some_of None = refl
some_of (Some h) = refl

-- If the first m slots are in use, at least m objects are held.
pub taken_front : (m : ℕ) (s : Slots) → ((j : ℕ) → j < m → is_some (slot s j) ≡ true) → m ≤ held_in s
taken_front zero s all = omega arith
taken_front (suc m) [] all = absurd (true≢false (sym (all 0 (omega arith))))
taken_front (suc m) (x ∷ s) all =
    let i = taken_front m s (λ j lt. all (suc j) (omega (arith, lt))) in
    let here : is_some x ≡ true = all 0 (omega arith) in
    let c = sum_by-cons (λ (y : Option Held). cond (is_some y) 1 0) x s in
    let one = ap (λ (b : Bool). let n : ℕ = cond b 1 0 in n) here in
    omega (arith, i, c, one)

-- The first free slot is within the slots, or just past the end.
pub free_within : (s : Slots) (f : Index) (words : List ℕ) (many i : ℕ) → AreHandles s f words many
    → held_in s < 65536 → has words i ≡ false → ((j : ℕ) → j < i → has words j ≡ true)
    → (i ≤ length s) × (i < 65536) × (slot s i ≡ None) × ((j : ℕ) → j < i → is_some (slot s j) ≡ true)
free_within s f words many i a few free least =
    let all : (j : ℕ) → j < i → is_some (slot s j) ≡ true = λ j lt. sym (some_of (slot s j)) ∙
    sym (a.indexed.bits j) ∙ least j lt in
    let front = taken_front i s all in
    let none : is_some (slot s i) ≡ false = sym (some_of (slot s i)) ∙ sym (a.indexed.bits i) ∙ free in (
      elim (cases_lt (length s) i) [
        | inl lt ↦ absurd (true≢false (sym (all (length s) lt) ∙
            ap (λ (o : Option Held). is_some o) (get_or_past s (length s) None (omega arith))))
        | inr le ↦ omega arith
      ],
      omega (arith, front, few),
      elim (slot s i) as (λ o. is_some o ≡ false → o ≡ None)
          [ None ↦ λ e. refl | Some h ↦ λ e. absurd (true≢false e) ] none,
      all,
    )

-- ---- what the answers cite

pub kept_moved : (s t : Slots) (f g : Index) (words : List ℕ) (many more : ℕ) → t ≡ s → ((k : ℕ × ℕ) → g k ≡ f k)
    → more ≡ many → AreHandles s f words many → AreHandles t g words more
kept_moved s t f g words many more same alike as_many a = record {
  indexed = same_nodes (λ j. node_of (slot s j)) (λ j. node_of (slot t j)) f g words
      (λ j. ap (λ (v : Slots). node_of (slot v j)) same) alike a.indexed;
  most = subst (λ (v : Slots). length v ≤ 65536) (sym same) a.most;
  many_held = ap (λ (v : Slots). held_in v) same ∙ a.many_held ∙ sym as_many;
}

put_same : (s t : Slots) (i : ℕ) (x : Option Held) → IsPut s t i x → node_of x ≡ node_of (slot s i) → (j : ℕ)
    → node_of (slot t j) ≡ node_of (slot s j)
put_same s t i x put same j =
    ap (λ (o : Option Held). node_of o) (put j)
    ∙ elim (j == i) as (λ b. (j == i) ≡ b → node_of (if b then x else slot s j) ≡ node_of (slot s j)) [
      | true ↦ λ e. same ∙ ap (λ (v : ℕ). node_of (slot s v)) (sym (number_same j i e))
      | false ↦ λ e. refl
    ] refl

pub kept_put : (s t : Slots) (f : Index) (words : List ℕ) (many i : ℕ) (x : Option Held) → IsPut s t i x
    → node_of x ≡ node_of (slot s i) → length t ≡ length s → held_in t ≡ held_in s → AreHandles s f words many
    → AreHandles t f words many
kept_put s t f words many i x put same long as_many a = record {
  indexed = same_nodes (λ j. node_of (slot s j)) (λ j. node_of (slot t j)) f f words (put_same s t i x put same)
      (λ k. refl) a.indexed;
  most = omega (arith, long, a.most);
  many_held = as_many ∙ a.many_held;
}

pub node_again : (o : Option Held) (n : Node) → is_some o ≡ true → node_of (granted_slot n o) ≡ node_of o
node_again None n h = absurd (true≢false (sym h))
node_again (Some x) n h = refl

pub node_left : (o : Option Held) → 1 < count_of o → node_of (released_slot o) ≡ node_of o
node_left None h = absurd (omega (arith, h))
node_left (Some x) h = left_over x (nat_le x.count 1) refl h

pub index_found : (s : Slots) (f : Index) (words : List ℕ) (many : ℕ) (n : Node) (o : Option ℕ)
    → AreHandles s f words many → o ≡ f (key_of n) → MatchOption o (IsAbsent s n) (λ i. node_of (slot s i) ≡ Some n)
index_found s f words many n None a e = λ i h. none_some (f (key_of n)) i (sym e) (a.indexed.index n i h)
index_found s f words many n (Some i) a e = a.indexed.back n i (sym e)

pub not_indexed : (s : Slots) (f : Index) (words : List ℕ) (many : ℕ) (n : Node) → AreHandles s f words many
    → IsAbsent s n → f (key_of n) ≡ None
not_indexed s f words many n a absent =
    elim (f (key_of n)) as (λ o. f (key_of n) ≡ o → o ≡ None)
    [ None ↦ λ e. refl | Some i ↦ λ e. absurd (absent i (a.indexed.back n i e)) ] refl

node_put : (s t : Slots) (i : ℕ) (x : Option Held) → IsPut s t i x → (j : ℕ)
    → node_of (slot t j) ≡ (if j == i then node_of x else node_of (slot s j))
node_put s t i x put j =
    ap (λ (o : Option Held). node_of o) (put j)
    ∙ elim (j == i) as (λ b. node_of (if b then x else slot s j) ≡ (if b then node_of x else node_of (slot s j)))
    [ true ↦ refl | false ↦ refl ]

pub kept_new : (s t : Slots) (f g : Index) (words more : List ℕ) (many many' i : ℕ) (n : Node) (x : Held) → x.node ≡ n
    → AreHandles s f words many → slot s i ≡ None → IsAbsent s n → IsPut s t i (Some x)
    → ((k : ℕ × ℕ) → g k ≡ (if same_key (key_of n) k then Some i else f k))
    → ((j : ℕ) → has more j ≡ ((j == i) || has words j)) → length more ≡ length words → length t ≤ 65536
    → held_in t ≡ held_in s + 1 → many' ≡ many + 1 → AreHandles t g more many'
kept_new s t f g words more many many' i n x is a free absent put by added long most held as_many = record {
  indexed = new_indexed (λ j. node_of (slot s j)) (λ j. node_of (slot t j)) f g words more n i
      (ap (λ (o : Option Held). node_of o) free) (not_indexed s f words many n a absent)
      (λ j. node_put s t i (Some x) put j ∙ ap (λ (v : Node). if j == i then Some v else node_of (slot s j)) is) by
      added long a.indexed;
  most = most;
  many_held = let h = a.many_held in omega (arith, held, as_many, h);
}

pub kept_last : (s t : Slots) (f g : Index) (words less : List ℕ) (many many' i : ℕ) (n : Node)
    → AreHandles s f words many → node_of (slot s i) ≡ Some n → IsPut s t i None
    → ((k : ℕ × ℕ) → g k ≡ (if same_key (key_of n) k then None else f k))
    → ((j : ℕ) → has less j ≡ (not (j == i) && has words j)) → length less ≡ length words → length t ≡ length s
    → held_in t + 1 ≡ held_in s → many' + 1 ≡ many → AreHandles t g less many'
kept_last s t f g words less many many' i n a here put by taken long same held as_many = record {
  indexed = last_indexed (λ j. node_of (slot s j)) (λ j. node_of (slot t j)) f g words less n i here
      (node_put s t i None put) by taken long a.indexed;
  most = let h = a.most in omega (arith, same, h);
  many_held = let h = a.many_held in omega (arith, held, as_many, h);
}

pub ok_is : {A E : Type 0} (r : Result A E) (P : Type 0) → IsOk r → OnOk r P → P
ok_is (Ok x) P ok p = p
ok_is (Err e) P ok p = absurd (true≢false (sym ok))

-- A new entry changes the number of entries so.
pub one_entry : {E : Type 0} (r : Result (Option ℕ) E) (was : Option ℕ) (m n : ℕ) → was ≡ None → IsOk r
    → IfOk r (λ old. old ≡ was) → IfOk r (λ old. n ≡ m + (if is_some old then 0 else 1)) → n ≡ m + 1
one_entry (Ok None) was m n none ok is len = len
one_entry (Ok (Some x)) was m n none ok is len = absurd (none_some was x none (sym is))
one_entry (Err e) was m n none ok is len = absurd (true≢false (sym ok))

pub one_less : (r was : Option ℕ) (m n i : ℕ) → was ≡ Some i → r ≡ was → n + (if is_some r then 1 else 0) ≡ m
    → n + 1 ≡ m
one_less None was m n i some is len = absurd (none_some was i (sym is) some)
one_less (Some x) was m n i some is len = len

pub inside_most : (s : Slots) (f : Index) (words : List ℕ) (many : ℕ) (n : Node) (o : Option ℕ)
    → AreHandles s f words many → o ≡ f (key_of n) → IfSome o (λ i. i < 65536)
inside_most s f words many n None a e = tt
inside_most s f words many n (Some i) a e =
    let here = a.indexed.back n i (sym e) in
    let most = a.most in
    elim (cases_lt i (length s)) [
      | inl lt ↦ omega (arith, lt, most)
      | inr le ↦ absurd (no_node (slot s i) n (get_or_past s i None le) here)
    ]

-- An object has one slot.
pub only_slot : (s : Slots) (f : Index) (words : List ℕ) (many : ℕ) (n : Node) → AreHandles s f words many → (i j : ℕ)
    → node_of (slot s i) ≡ Some n → node_of (slot s j) ≡ Some n → i ≡ j
only_slot s f words many n a i j p q = some_number i j (sym (a.indexed.index n i p) ∙ a.indexed.index n j q)

pub count_at : (s : Slots) (i j : ℕ) (x : Held) → j ≡ i → Some x ≡ slot s i → x.count ≡ count_of (slot s j)
count_at s i j x same at = ap (λ (o : Option Held). count_of o) (at ∙ ap (λ (v : ℕ). slot s v) (sym same))
