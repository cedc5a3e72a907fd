-- Unions of rows as they are doubled.
use Rattle.std.proofs.Common.{inl, inr, ◌≡◌, ℕ, zero, suc, ◌+◌, ◌-◌, ◌*◌, ◌^◌, ◌<◌, ◌≤◌, Bool, true, false, ◌&&◌}
use Rattle.std.proofs.Common.{◌||◌, List, length, refl, sym, ap, ◌∙◌, arith, add-one, true≢false}
use Rattle.std.specs.Int.{bit_at}
use Rattle.std.proofs.Math.Bool.{or-false, or-true}
use Rattle.std.proofs.Math.Nat.{two-pow-succ}
use Rattle.std.proofs.lemmas.Bool.{cases_eq, cases_lt}
use Rattle.std.proofs.lemmas.Nat.Bits.{bit_at_above, bit_at_cat_low, bit_at_cat_high}
use Rattle.sm_bits.specs.Bits.{has, row, has_bit}
use Rattle.sm_matrices.specs.Uniting.{Doubled, any_row, Unites}
use Rattle.sm_bits.proofs.ByteBits.{no_bits}

-- The first i rows are doubled.
pub record DoubledTo (old new : List (List ℕ)) (more : List ℕ) (words i : ℕ) : Type 0 where
  pub number : length new ≡ length old + i
  pub room : (p : ℕ) → p < length old + i → length (row new p) ≡ words
  pub kept : (p : ℕ) → p < length old → row new p ≡ row old p
  pub joined : (p t : ℕ) → p < i → has (row new (length old + p)) t ≡ (has (row old p) t || has more t)

-- What is said of a row holds of one that has the same.
pub doubled_same : (old new : List (List ℕ)) (more other : List ℕ) → ((t : ℕ) → has more t ≡ has other t)
    → Doubled old new more → Doubled old new other
doubled_same old new more other same d = record {
  number = d.number;
  kept = d.kept;
  joined = λ p t h. d.joined p t h ∙ ap (λ (x : Bool). has (row old p) t || x) (same t);
}

-- ---- the bits of a place

no_high_bit : (k p : ℕ) → p < 2 ^ k → has_bit p k ≡ false
unfolding has_bit
no_high_bit k p h = rw (bit_at_above p k k h (omega arith)) refl

raised : (k q : ℕ) → 2 ^ k + q ≡ 1 * 2 ^ k + q
raised k q = omega arith

high_bit : (k q : ℕ) → q < 2 ^ k → has_bit (2 ^ k + q) k ≡ true
unfolding has_bit
high_bit k q h =
    let at : bit_at (1 * 2 ^ k + q) k ≡ bit_at 1 (k - k) = bit_at_cat_high 1 k q k h (omega arith) in
    let none : k - k ≡ 0 = omega arith in
    rw (raised k q, at, none) refl

low_bit : (k q j : ℕ) → j < k → has_bit (2 ^ k + q) j ≡ has_bit q j
unfolding has_bit
low_bit k q j h = let at : bit_at (1 * 2 ^ k + q) j ≡ bit_at q j = bit_at_cat_low 1 k q j h in rw (raised k q, at) refl

-- ---- the rows whose bit is in a place

any_more : (rows : List (List ℕ)) (first p k t : ℕ)
    → any_row rows first p (k + 1) t ≡ (any_row rows first p k t || (has_bit p k && has (row rows (first + k)) t))
unfolding any_row
any_more rows first p k t = rw (add-one k) refl

any_of_none : (rows : List (List ℕ)) (first k t : ℕ) → any_row rows first 0 k t ≡ false
unfolding any_row
any_of_none rows first zero t = refl
any_of_none rows first (suc k) t = rw (any_of_none rows first k t, no_bits k) refl

any_raised : (rows : List (List ℕ)) (first k q m t : ℕ) → m ≤ k
    → any_row rows first (2 ^ k + q) m t ≡ any_row rows first q m t
unfolding any_row
any_raised rows first k q zero t h = refl
any_raised rows first k q (suc m) t h =
    let less : m < k = omega arith in let rest : m ≤ k = omega arith in
    rw (any_raised rows first k q m t rest, low_bit k q m less) refl

pub any_at : (rows : List (List ℕ)) (first p k j t : ℕ) → j < k → has_bit p j ≡ true
    → has (row rows (first + j)) t ≡ true → any_row rows first p k t ≡ true
unfolding any_row
any_at rows first p zero j t h bit has = absurd (omega arith)
any_at rows first p (suc k) j t h bit has = elim (cases_eq j k) [
  | inl same ↦ rw (← same, bit, has) (or-true _)
  | inr other ↦ (let less : j < k = omega arith in rw (any_at rows first p k j t less bit has) refl)
]

-- ---- unions of rows that follow each other

pub unites_none : (rows : List (List ℕ)) (first : ℕ) (unions : List (List ℕ)) → length unions ≡ 1
    → ((t : ℕ) → has (row unions 0) t ≡ false) → Unites rows first 0 unions
unfolding any_row
unites_none rows first unions one none = record {
  number = one;
  says = λ p t h. (let start : p ≡ 0 = omega arith in rw (start, none t) refl);
}

pub unites_more : (rows : List (List ℕ)) (first k : ℕ) (old new : List (List ℕ)) → Unites rows first k old
    → Doubled old new (row rows (first + k)) → Unites rows first (k + 1) new
unites_more rows first k old new before doubled = record {
  number = doubled.number ∙ (rw before.number (sym twice));
  says = λ p t h. elim (cases_lt p (2 ^ k)) [
    | inl low ↦ (let inside : p < length old = omega (arith, before.number) in
        ap (λ (r : List ℕ). has r t) (doubled.kept p inside)
        ∙ (before.says p t low ∙ (rw (any_more rows first p k t, no_high_bit k p low)
        (sym (or-false (any_row rows first p k t))))))
    | inr high ↦ (let q = p - 2 ^ k in
        let less : q < 2 ^ k = omega (arith, twice) in
        let is : p ≡ 2 ^ k + q = omega arith in
        rw is (upper q t less))
  ];
}
  where
    twice : 2 ^ (k + 1) ≡ 2 ^ k + 2 ^ k
    twice = rw (add-one k) (two-pow-succ k)

    upper : (q t : ℕ) → q < 2 ^ k → has (row new (2 ^ k + q)) t ≡ any_row rows first (2 ^ k + q) (k + 1) t
    upper q t less =
        let inside : q < length old = omega (arith, before.number) in
        let same : any_row rows first (2 ^ k + q) k t ≡ any_row rows first q k t =
        any_raised rows first k q k t (omega arith) in
        (rw before.number at (doubled.joined q t inside))
        ∙ (rw (before.says q t less, any_more rows first (2 ^ k + q) k t, same, high_bit k q less) refl)

pub unites_first : (rows : List (List ℕ)) (first k : ℕ) (unions : List (List ℕ)) (t : ℕ) → 0 < 2 ^ k
    → Unites rows first k unions → has (row unions 0) t ≡ false
unites_first rows first k unions t some united = united.says 0 t some ∙ any_of_none rows first k t

-- Some row whose bit is in the place has the number.
pub record SomeRow (rows : List (List ℕ)) (first p k t : ℕ) : Type 0 where
  pub j : ℕ
  pub inside : j < k
  pub chosen : has_bit p j ≡ true
  pub there : has (row rows (first + j)) t ≡ true

pub some_row : (rows : List (List ℕ)) (first p k t : ℕ) → any_row rows first p k t ≡ true → SomeRow rows first p k t
unfolding any_row
some_row rows first p zero t h = absurd (true≢false (sym h))
some_row rows first p (suc k) t h = by (any_row rows first p k t) (has_bit p k) (has (row rows (first + k)) t) refl refl
    refl h (λ g. some_row rows first p k t g) where
      by : (x y z : Bool) → any_row rows first p k t ≡ x → has_bit p k ≡ y → has (row rows (first + k)) t ≡ z
          → (x || (y && z)) ≡ true
          → (any_row rows first p k t ≡ true → SomeRow rows first p k t) → SomeRow rows first p (suc k) t
      by true y z is bit there or rest = let r = rest is in
          record { j = r.j; inside = omega (arith, r.inside); chosen = r.chosen; there = r.there }
      by false true true is bit there or rest = record { j = k; inside = omega arith; chosen = bit; there = there }
      by false true false is bit there or rest = absurd (true≢false (sym or))
      by false false z is bit there or rest = absurd (true≢false (sym or))
