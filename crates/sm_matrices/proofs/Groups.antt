-- Rules by the sets of their permissions.
use Rattle.std.proofs.Common.{inl, inr, ◌≡◌, ℕ, ◌+◌, ◌*◌, ◌/◌, ◌%◌, ◌^◌, ◌<◌, ◌≤◌, Bool, true, false, ◌&&◌, ◌||◌, eqb}
use Rattle.std.proofs.Common.{ltb, List, [], ◌∷◌, length, get_or, take, refl, sym, ap, ◌∙◌, arith, true≢false}
use Rattle.std.specs.Int.{bit_at}
use Rattle.std.specs.List.{list_any}
use Rattle.std.proofs.lemmas.Bool.{cases_eq, cases_lt, eq-eqb, ne_eqb, lt-ltb, le-ltb, and_left, and_right}
use Rattle.std.proofs.lemmas.List.Folds.{list_any_more}
use Rattle.std.proofs.Math.Seq.{take-length}
use Rattle.std.proofs.lemmas.Nat.Bits.{bit_at_cat_low}
use Rattle.sm_bits.specs.Bits.{has, row, has_bit}
use Rattle.sm_rules.specs.declared.kept.Kept.{Kept}
use Rattle.sm_rules.specs.Keeping.{joins, covers}
use Rattle.sm_matrices.specs.Matrices.{matrix, AllSquare, AllCompiled, perm_set, is_of_set, joined_by, Joined}
use Rattle.sm_bits.proofs.ByteBits.{no_bits}
use Rattle.sm_matrices.proofs.Searches.{any_same}

-- A number below 128 says of the first seven bits what the byte says.
pub low_bits : (x b : ℕ) → b < 7 → has_bit (x % 128) b ≡ has_bit x b
unfolding has_bit
low_bits x b h =
    let parts : x ≡ x / 128 * 2 ^ 7 + x % 128 = omega arith in
    let same : bit_at x b ≡ bit_at (x % 128) b = ap (λ (n : ℕ). bit_at n b) parts
    ∙ bit_at_cat_low (x / 128) 7 (x % 128) b h in
    ap (λ (n : ℕ). eqb n 1) (sym same)

-- ---- tests in a list

any_none : {X : Type 0} (p : X → Bool) (xs : List X) → ((x : X) → p x ≡ false) → list_any p xs ≡ false
any_none p [] h = refl
any_none p (x ∷ xs) h = rw (h x, any_none p xs h) refl

any_or : {X : Type 0} (p q : X → Bool) (xs : List X) → list_any (λ x. p x || q x) xs ≡ (list_any p xs || list_any q xs)
any_or p q [] = refl
any_or p q (x ∷ xs) = rw (any_or p q xs) (mixed (p x) (q x) (list_any p xs) (list_any q xs)) where
  mixed : (a b c d : Bool) → ((a || b) || (c || d)) ≡ ((a || c) || (b || d))
  mixed true b c d = refl
  mixed false true true d = refl
  mixed false true false d = refl
  mixed false false true d = refl
  mixed false false false d = refl

any_and : {X : Type 0} (c : Bool) (p : X → Bool) (xs : List X) → list_any (λ x. c && p x) xs ≡ (c && list_any p xs)
any_and true p xs = refl
any_and false p xs = any_none (λ x. false && p x) xs (λ x. refl)

-- ---- the matrices once the sets below n are gone through

abbrev pub covers_below : ℕ → ℕ → ℕ → ℕ → Kept → Bool
covers_below n b s t rule = covers b s t rule && ltb (perm_set rule) n

pub record Through (rules : List Kept) (count n : ℕ) (matrices : List (List (List ℕ))) : Type 0 where
  pub number : length matrices ≡ 7
  pub square : AllSquare matrices count
  pub says : (b s t : ℕ) → b < 7 → s < count → has (row (matrix matrices b) s) t ≡ list_any (covers_below n b s t) rules

-- A rule of no permission covers nothing.
no_perms : (b s t : ℕ) (rule : Kept) → b < 7 → covers_below 1 b s t rule ≡ false
no_perms b s t rule low = elim (cases_eq (perm_set rule) 0) [
  | inl none ↦ and_left (covers b s t rule) (ltb (perm_set rule) 1)
      (and_right (joins s t rule) (has_bit rule.perms.0 b) (sym (low_bits rule.perms.0 b low) ∙ rw none (no_bits b)))
  | inr some ↦ (let above : 1 ≤ perm_set rule = omega arith in
      and_right (covers b s t rule) (ltb (perm_set rule) 1) (le-ltb (perm_set rule) 1 above))
]

pub through_none : (rules : List Kept) (count : ℕ) (matrices : List (List (List ℕ))) → AllCompiled [] count 7 matrices
    → Through rules count 1 matrices
through_none rules count matrices c = record {
  number = c.number;
  square = record { each = λ b low. (c.each b low).square };
  says = λ b s t low inside. (c.each b low).says s t inside
      ∙ sym (any_none (covers_below 1 b s t) rules (λ r. no_perms b s t r low));
}

-- One more set: a rule is of it, or its index comes from the sets before.
one_set : (n b s t : ℕ) (rule : Kept) → b < 7
    → covers_below (n + 1) b s t rule ≡
    (covers_below n b s t rule || (has_bit n b && (joins s t rule && is_of_set n rule)))
one_set n b s t rule low = elim (cases_eq (perm_set rule) n) [
  | inl same ↦ (let above : n ≤ perm_set rule = omega arith in let below : perm_set rule < n + 1 = omega arith in
      let bits : has_bit rule.perms.0 b ≡ has_bit n b = sym (low_bits rule.perms.0 b low)
      ∙ ap (λ (x : ℕ). has_bit x b) same in
      rw (bits, le-ltb (perm_set rule) n above, lt-ltb (perm_set rule) (n + 1) below, eq-eqb (perm_set rule) n same)
      (by_it (joins s t rule) (has_bit n b)))
  | inr other ↦ rw (ne_eqb (perm_set rule) n other, not_more (perm_set rule) n other)
      (by_others (covers b s t rule && ltb (perm_set rule) n) (has_bit n b) (joins s t rule))
]
  where
    by_it : (x y : Bool) → ((x && y) && true) ≡ (((x && y) && false) || (y && (x && true)))
    by_it true true = refl
    by_it true false = refl
    by_it false true = refl
    by_it false false = refl

    by_others : (x y z : Bool) → x ≡ (x || (y && (z && false)))
    by_others true y z = refl
    by_others false true true = refl
    by_others false true false = refl
    by_others false false z = refl

    not_more : (a n : ℕ) → (a ≡ n → ⊥) → ltb a (n + 1) ≡ ltb a n
    not_more a n other = elim (cases_lt a n) [
      | inl l ↦ (let m : a < n + 1 = omega arith in lt-ltb a (n + 1) m ∙ sym (lt-ltb a n l))
      | inr g ↦ (let m : n + 1 ≤ a = omega arith in le-ltb a (n + 1) m ∙ sym (le-ltb a n g))
    ]

pub through_more : (rules : List Kept) (count n : ℕ) (old new : List (List (List ℕ)))
    → Joined old new count n (joined_by rules n) → Through rules count n old
    → Through rules count (n + 1) new
through_more rules count n old new step before = record {
  number = step.number;
  square = step.square;
  says = λ b s t low inside. step.says b s t low inside ∙ (rw (before.says b s t low inside) (sym (
      any_same (covers_below (n + 1) b s t)
      (λ r. covers_below n b s t r || (has_bit n b && (joins s t r && is_of_set n r))) rules
      (λ r. one_set n b s t r low)
      ∙ any_or (covers_below n b s t) (λ r. has_bit n b && (joins s t r && is_of_set n r)) rules
      ∙ ap (λ (c : Bool). list_any (covers_below n b s t) rules || c)
      (any_and (has_bit n b) (λ r. joins s t r && is_of_set n r) rules))));
}

pub through_all : (rules : List Kept) (count : ℕ) (matrices : List (List (List ℕ))) → Through rules count 128 matrices
    → AllCompiled rules count 7 matrices
through_all rules count matrices all = record {
  number = all.number;
  each = λ b low. record {
    square = all.square.each b low;
    says = λ s t inside. all.says b s t low inside
        ∙ any_same (covers_below 128 b s t) (covers b s t) rules
        (λ r. whole (covers b s t r) (ltb (perm_set r) 128) (lt-ltb (perm_set r) 128 (omega arith)));
  };
}
  where
    whole : (x y : Bool) → y ≡ true → (x && y) ≡ x
    whole true y h = h
    whole false y h = refl

-- ---- one set

-- No rule is of the set: nothing is added for it.
pub none_of_set : (rules : List Kept) (count set : ℕ) (matrices : List (List (List ℕ)))
    → list_any (is_of_set set) rules ≡ false → length matrices ≡ 7 → AllSquare matrices count
    → Joined matrices matrices count set (joined_by rules set)
none_of_set rules count set matrices none number square = record {
  number = number;
  square = square;
  says = λ b s t low inside. rw (no_pair rules s t none) (kept (has (row (matrix matrices b) s) t) (has_bit set b));
}
  where
    kept : (x y : Bool) → x ≡ (x || (y && false))
    kept true y = refl
    kept false true = refl
    kept false false = refl

    no_pair : (rs : List Kept) (s t : ℕ) → list_any (is_of_set set) rs ≡ false → joined_by rs set s t ≡ false
    no_pair [] s t h = refl
    no_pair (r ∷ rs) s t h = by (is_of_set set r) refl h (λ g. no_pair rs s t g) where
      by : (c : Bool) → is_of_set set r ≡ c → (c || list_any (is_of_set set) rs) ≡ false
          → (list_any (is_of_set set) rs ≡ false → joined_by rs set s t ≡ false)
          → ((joins s t r && is_of_set set r) || joined_by rs set s t) ≡ false
      by true e g rest = absurd (true≢false g)
      by false e g rest = rw (and_right (joins s t r) (is_of_set set r) e, rest g) refl

-- The matrices of the bits below n have the group, if their bit is in the set, and the others not yet.
pub record JoinedBelow (old new : List (List (List ℕ))) (group : List (List ℕ)) (count set n : ℕ) : Type 0 where
  pub number : length new ≡ 7
  pub square : AllSquare new count
  pub below : (b s t : ℕ) → b < n → s < count → has (row (matrix new b) s) t
      ≡ (has (row (matrix old b) s) t || (has_bit set b && has (row group s) t))
  pub above : (b : ℕ) → n ≤ b → matrix new b ≡ matrix old b

-- ---- the rules of a set, one by one

pub joined_more : (rules : List Kept) (set i s t : ℕ) (rule : Kept) (old new : Bool) → i < length rules
    → rule ≡ get_or rules i rule
    → old ≡ joined_by (take i rules) set s t → new ≡ (old || (joins s t rule && is_of_set set rule))
    → new ≡ joined_by (take (i + 1) rules) set s t
joined_more rules set i s t rule old new inside is before step =
    step ∙ (rw (list_any_more (λ r. joins s t r && is_of_set set r) rules i rule inside, ← is, before) refl)

pub joined_whole : (rules : List Kept) (set i s t : ℕ) → i ≡ length rules
    → joined_by (take i rules) set s t ≡ joined_by rules set s t
joined_whole rules set i s t end = rw (end, take-length rules) refl
