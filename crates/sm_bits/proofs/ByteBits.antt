-- Bits of a byte.
use Rattle.std.proofs.Common.{inl, inr, ◌≡◌, ℕ, ◌+◌, ◌*◌, ◌^◌, ◌%◌, ◌<◌, ◌≤◌, Bool, false, ◌&&◌, ◌||◌, eqb, refl, sym}
use Rattle.std.proofs.Common.{w8, arith}
use Rattle.std.specs.Prelude.{bit_or}
use Rattle.std.proofs.Math.Bool.{or-false, or-true}
use Rattle.std.proofs.lemmas.Bool.{cases_eq, eq-eqb, ne_eqb}
use Rattle.std.proofs.lemmas.Nat.Bits.{bit_at_set_same, bit_at_set_other, bit_at-zero}
use Rattle.sm_bits.specs.Bits.{has_bit}

pub bit_added : (n k b : ℕ) → k < 8 → has_bit (bit_or n (1 * 2 ^ k % 2 ^ 8)) b ≡ (has_bit n b || eqb b k)
unfolding has_bit
bit_added n k b h = elim (cases_eq b k) [
  | inl same ↦ rw (same, bit_at_set_same w8 n k h, eq-eqb k k refl) (sym (or-true _))
  | inr other ↦ rw (bit_at_set_other w8 n k h b other, ne_eqb b k other) (sym (or-false _))
]

pub no_bits : (b : ℕ) → has_bit 0 b ≡ false
unfolding has_bit
no_bits b = rw (bit_at-zero b) refl

-- The bits below i say whether g, and those from i on are 0.
pub record Told (byte : ℕ) (g : ℕ → Bool) (i : ℕ) : Type 0 where
  pub below : (b : ℕ) → b < i → has_bit byte b ≡ g b
  pub above : (b : ℕ) → i ≤ b → has_bit byte b ≡ false

pub told_none : (g : ℕ → Bool) → Told 0 g 0
told_none g = record { below = λ b h. absurd (omega arith); above = λ b h. no_bits b }

pub told_more : (byte more : ℕ) (g : ℕ → Bool) (i : ℕ)
    → ((b : ℕ) → has_bit more b ≡ (has_bit byte b || (eqb b i && g i))) → Told byte g i → Told more g (i + 1)
told_more byte more g i step before = record {
  below = λ b h. elim (cases_eq b i) [
    | inl same ↦ rw (same, step i, before.above i (omega arith), eq-eqb i i refl) refl
    | inr other ↦ rw (step b, before.below b (omega arith), ne_eqb b i other) (or-false (g b))
  ];
  above = λ b h. (let other : b ≡ i → ⊥ = omega arith in
      rw (step b, before.above b (omega arith), ne_eqb b i other) refl);
}
