-- The least number that isn't in a row; a number that is taken away.
use Rattle.std.proofs.Common.{inl, inr, ◌≡◌, ℕ, ◌+◌, ◌-◌, ◌*◌, ◌/◌, ◌%◌, ◌^◌, ◌<◌, ◌≤◌, true, false, not, ◌&&◌, eqb}
use Rattle.std.proofs.Common.{List, length, get_or, set, refl, sym, ap, ◌∙◌, arith, w64}
use Rattle.std.specs.Int.{bit_at, bit_not, trailing_ones}
use Rattle.std.specs.Prelude.{bit_and}
use Rattle.std.proofs.lemmas.Bool.{cases_eq, cases_lt, eq-eqb, ne_eqb}
use Rattle.std.proofs.lemmas.Nat.Bits.{bit_at-zero, bit_at_not, bit_at_clear_same, bit_at_clear_other}
use Rattle.std.proofs.lemmas.Nat.Bits.{bit_at-trailing_ones}
use Rattle.std.proofs.lemmas.List.{get_or-set_other, get_or-set_same}
use Rattle.sm_bits.specs.Bits.{has}
use Rattle.sm_bits.proofs.Words.{bit_is, has_is}

full_bit : (b : ℕ) → b < 64 → bit_is (2 ^ 64 - 1) b ≡ true
full_bit b small =
    let e : bit_at (bit_not w64 0) b ≡ 1 - bit_at 0 b = bit_at_not w64 0 b (omega arith) small in
    let z = bit_at-zero b in
    let one : bit_at (bit_not w64 0) b ≡ 1 = rw z at e in
    rw one refl

pub full_more : (words : List ℕ) (a i w : ℕ) → w ≡ get_or words i 0 → w ≡ 2 ^ 64 - 1
    → ((j : ℕ) → a ≤ j → j / 64 < i → has words j ≡ true)
    → (j : ℕ) → a ≤ j → j / 64 < i + 1 → has words j ≡ true
full_more words a i w is full before j le h = elim (cases_eq (j / 64) i) [
  | inl same ↦ (let word : get_or words (j / 64) 0 ≡ 2 ^ 64 - 1 = ap (λ (k : ℕ). get_or words k 0) same ∙ sym is ∙
      full in
      has_is words j ∙ ap (λ (v : ℕ). bit_is v (j % 64)) word ∙ full_bit (j % 64) (omega arith))
  | inr diff ↦ before j le (omega arith)
]

-- The place of the lowest 0 of the first word that has one.
pub free_found : (words : List ℕ) (a i w : ℕ) → w ≡ get_or words i 0 → w + 1 < 2 ^ 64
    → ((j : ℕ) → a ≤ j → j / 64 < i → has words j ≡ true)
    → (has words (64 * i + trailing_ones w64 w) ≡ false)
    × ((j : ℕ) → a ≤ j → j < 64 * i + trailing_ones w64 w → has words j ≡ true)
free_found words a i w is fits before =
    let t = trailing_ones w64 w in
    let found = bit_at-trailing_ones w64 w fits in
    let word : (64 * i + t) / 64 ≡ i = omega (arith, found.0) in
    let place : (64 * i + t) % 64 ≡ t = omega (arith, found.0) in (
      rw (has_is words (64 * i + t), word, place, ← is, found.1) refl,
      λ j le h. elim (cases_lt (j / 64) i) [
        | inl below ↦ before j le below
        | inr here ↦ (let at : j / 64 ≡ i = omega (arith, found.0, h) in
            let less : j % 64 < t = omega (arith, found.0, h, at) in
            rw (has_is words j, at, ← is, found.2 (j % 64) less) refl)
      ],
    )

same_place : (i j : ℕ) → j / 64 ≡ i / 64 → j % 64 ≡ i % 64 → j ≡ i
same_place i j h g = omega arith

pub has_removed : (words : List ℕ) (i j : ℕ) → i / 64 < length words
    → has (set words (i / 64) (bit_and (get_or words (i / 64) 0) (bit_not w64 (1 * 2 ^ (i % 64) % 2 ^ 64)))) j
    ≡ (not (eqb j i) && has words j)
has_removed words i j inside =
    let small : i % 64 < 64 = omega arith in
    let v : ℕ = bit_and (get_or words (i / 64) 0) (bit_not w64 (1 * 2 ^ (i % 64) % 2 ^ 64)) in
    elim (cases_eq (j / 64) (i / 64)) [
      | inl same ↦ (let read : get_or (set words (i / 64) v) (j / 64) 0 ≡ v =
          rw same (get_or-set_same words (i / 64) v 0 inside) in
          elim (cases_eq (j % 64) (i % 64)) [
            | inl at ↦ (let e : eqb j i ≡ true = eq-eqb j i (same_place i j same at) in
                has_is (set words (i / 64) v) j ∙
                (rw (read, at, bit_at_clear_same w64 (get_or words (i / 64) 0) (i % 64) small, e) refl))
            | inr off ↦ (let e : eqb j i ≡ false = ne_eqb j i (λ q. off (ap (λ (n : ℕ). n % 64) q)) in
                let low : j % 64 < 64 = omega arith in
                has_is (set words (i / 64) v) j ∙
                (rw (
                  read,
                  bit_at_clear_other w64 (get_or words (i / 64) 0) (i % 64) small (j % 64) low off,
                  e,
                  has_is words j,
                  same,
                ) refl))
          ])
      | inr other ↦ (let e : eqb j i ≡ false = ne_eqb j i (λ q. other (ap (λ (n : ℕ). n / 64) q)) in
          has_is (set words (i / 64) v) j ∙
          (rw (get_or-set_other words (i / 64) (j / 64) v 0 other, e, has_is words j) refl))
    ]
