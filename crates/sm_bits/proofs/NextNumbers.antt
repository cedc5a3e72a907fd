-- The least number of a row from a place on, by the bits of its word that are left from there.
use Rattle.std.proofs.Common.{inl, inr, ◌≡◌, ℕ, ◌+◌, ◌-◌, ◌*◌, ◌/◌, ◌%◌, ◌^◌, ◌<◌, ◌≤◌, true, false, List, get_or}
use Rattle.std.proofs.Common.{refl, sym, ap, ◌∙◌, arith, w64}
use Rattle.std.specs.Int.{bit_at, trailing_zeros}
use Rattle.std.proofs.Math.Nat.{div-div-eq-div-mul, div-le_self}
use Rattle.std.proofs.lemmas.Nat.{pow-add}
use Rattle.std.proofs.lemmas.Bool.{cases_lt}
use Rattle.std.proofs.lemmas.Nat.Bits.{bit_at-zero, bit_at_above, bit_at-trailing_zeros}
use Rattle.sm_bits.specs.Bits.{has}
use Rattle.sm_bits.proofs.Words.{bit_is, has_is}

-- The bits of a word from the kth on.
pub bit_behind : (n k b : ℕ) → bit_at (n / 2 ^ k) b ≡ bit_at n (k + b)
bit_behind n k b =
    ap (λ (m : ℕ). m % 2) (div-div-eq-div-mul n (2 ^ k) (2 ^ b) ∙ ap (λ (m : ℕ). n / m) (sym (pow-add 2 k b)))

-- What bit b of the rest says of number i + b, if that is in the same word.
bit_of_rest : (words : List ℕ) (i b rest : ℕ) → rest ≡ get_or words (i / 64) 0 / 2 ^ (i % 64) → i % 64 + b < 64
    → has words (i + b) ≡ bit_is rest b
bit_of_rest words i b rest is small =
    let word : (i + b) / 64 ≡ i / 64 = omega (arith, small) in
    let place : (i + b) % 64 ≡ i % 64 + b = omega (arith, small) in
    has_is words (i + b) ∙ (rw (word, place, is, bit_behind (get_or words (i / 64) 0) (i % 64) b) refl)

-- The number of the lowest bit of the rest is the least from i on.
pub record Least (words : List ℕ) (i found : ℕ) : Type 0 where
  pub within : found < 64 * (i / 64) + 64
  pub has_it : has words found ≡ true
  pub before : (j : ℕ) → i ≤ j → j < found → has words j ≡ false

pub least_found : (words : List ℕ) (i rest : ℕ) → rest ≡ get_or words (i / 64) 0 / 2 ^ (i % 64)
    → get_or words (i / 64) 0 < 2 ^ 64 → 0 < rest → Least words i (i + trailing_zeros w64 rest)
least_found words i rest is fits some =
    let word : ℕ = get_or words (i / 64) 0 in
    let z : ℕ = trailing_zeros w64 rest in
    let less : rest < 2 ^ 64 = omega (arith, is, div-le_self word (2 ^ (i % 64)), fits) in
    let found = bit_at-trailing_zeros w64 rest some less in
    let one : bit_at word (i % 64 + z) ≡ 1 = sym (bit_behind word (i % 64) z) ∙ (rw (← is) found.1) in
    let small : i % 64 + z < 64 = elim (cases_lt (i % 64 + z) 64) [
      | inl h ↦ h
      | inr h ↦ (let none = bit_at_above word 64 (i % 64 + z) fits h in absurd (omega (arith, one, none)))
    ] in
    record {
      within = omega (arith, small);
      has_it = bit_of_rest words i z rest is small ∙ (rw found.1 refl);
      before = λ j from h. (let b : ℕ = j - i in
          let here : i + b ≡ j = omega (arith, from) in
          let low : b < z = omega (arith, from, h) in
          let inside : i % 64 + b < 64 = omega (arith, low, small) in
          ap (has words) (sym here) ∙ (bit_of_rest words i b rest is inside ∙ (rw (found.2 b low) refl)));
    }

-- Where the rest is 0, no number from i on is in its word.
pub none_left : (words : List ℕ) (i j rest : ℕ) → rest ≡ get_or words (i / 64) 0 / 2 ^ (i % 64) → rest ≡ 0
    → i ≤ j → j < 64 * (i / 64) + 64 → has words j ≡ false
none_left words i j rest is zero from within =
    let b : ℕ = j - i in
    let here : i + b ≡ j = omega (arith, from) in
    let inside : i % 64 + b < 64 = omega (arith, from, within) in
    ap (has words) (sym here) ∙ (bit_of_rest words i b rest is inside ∙ (rw (zero, bit_at-zero b) refl))
