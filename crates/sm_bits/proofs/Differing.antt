-- Two rows of words side by side, up to the first number that only one of them has.
use Rattle.std.proofs.Common.{inl, inr, ◌≡◌, ℕ, ◌+◌, ◌*◌, ◌/◌, ◌%◌, ◌^◌, ◌<◌, List, get_or, eqb, refl, ap}
use Rattle.std.proofs.Common.{arith, w64}
use Rattle.std.specs.Int.{bit_at, trailing_zeros}
use Rattle.std.specs.Prelude.{bit_xor}
use Rattle.std.proofs.lemmas.Bool.{cases_eq, cases_lt}
use Rattle.std.proofs.lemmas.Nat.Bits.{bit_at-lt, bit_at-zero, bit_at_xor, bit_at-trailing_zeros}
use Rattle.sm_bits.specs.Bits.{has}
use Rattle.sm_bits.proofs.Words.{bit_is, bit_cases, has_is}

same_bit : (x y b : ℕ) → bit_at (bit_xor x y) b ≡ 0 → bit_is x b ≡ bit_is y b
same_bit x y b zero =
    let e : bit_at x b ≡ bit_at y b = omega (arith, bit_at_xor x y b, zero, bit_at-lt x b, bit_at-lt y b) in
    ap (λ (n : ℕ). eqb n 1) e

other_bit : (x y b : ℕ) → bit_at (bit_xor x y) b ≡ 1 → bit_is x b ≡ bit_is y b → ⊥
other_bit x y b one same = elim (bit_cases x b) [
  | inl e ↦ elim (bit_cases y b) [
    | inl g ↦ omega (arith, bit_at_xor x y b, one, e, g)
    | inr g ↦ absurd (cc (rw (e, g) at same))
  ]
  | inr e ↦ elim (bit_cases y b) [
    | inl g ↦ absurd (cc (rw (e, g) at same))
    | inr g ↦ omega (arith, bit_at_xor x y b, one, e, g)
  ]
]

-- The numbers of the word i are the same, after those of the words before it.
pub alike_more : (xs ys : List ℕ) (i : ℕ) → bit_xor (get_or xs i 0) (get_or ys i 0) ≡ 0
    → ((j : ℕ) → j / 64 < i → has xs j ≡ has ys j) → (j : ℕ) → j / 64 < i + 1 → has xs j ≡ has ys j
alike_more xs ys i zero before j h = elim (cases_eq (j / 64) i) [
  | inl same ↦ (let bit : bit_at (bit_xor (get_or xs i 0) (get_or ys i 0)) (j % 64) ≡ 0 =
      rw (zero, bit_at-zero (j % 64)) refl in
      rw (has_is xs j, has_is ys j, same) (same_bit (get_or xs i 0) (get_or ys i 0) (j % 64) bit))
  | inr other ↦ before j (omega arith)
]

-- The lowest bit in which the words i differ is the first number that only one row has.
pub record FirstDifference (xs ys : List ℕ) (found : ℕ) : Type 0 where
  pub alike : (j : ℕ) → j < found → has xs j ≡ has ys j
  pub differs : has xs found ≡ has ys found → ⊥

pub first_difference : (xs ys : List ℕ) (i : ℕ) → 0 < bit_xor (get_or xs i 0) (get_or ys i 0)
    → bit_xor (get_or xs i 0) (get_or ys i 0) < 2 ^ 64 → ((j : ℕ) → j / 64 < i → has xs j ≡ has ys j)
    → FirstDifference xs ys (64 * i + trailing_zeros w64 (bit_xor (get_or xs i 0) (get_or ys i 0)))
first_difference xs ys i some fits before =
    let x : ℕ = get_or xs i 0 in
    let y : ℕ = get_or ys i 0 in
    let z : ℕ = trailing_zeros w64 (bit_xor x y) in
    let found = bit_at-trailing_zeros w64 (bit_xor x y) some fits in
    let word : (64 * i + z) / 64 ≡ i = omega (arith, found.0) in
    let place : (64 * i + z) % 64 ≡ z = omega (arith, found.0) in
    record {
      alike = λ j h. elim (cases_lt (j / 64) i) [
        | inl below ↦ before j below
        | inr here ↦ (let at : j / 64 ≡ i = omega (arith, found.0, h, here) in
            let low : j % 64 < z = omega (arith, found.0, h, at) in
            rw (has_is xs j, has_is ys j, at) (same_bit x y (j % 64) (found.2 (j % 64) low)))
      ];
      differs = λ same. other_bit x y z found.1
          (rw (has_is xs (64 * i + z), has_is ys (64 * i + z), word, place) at same);
    }
