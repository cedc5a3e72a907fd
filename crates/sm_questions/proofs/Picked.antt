-- Bits that a test picks, one after another.
use Rattle.std.proofs.Common.{inl, inr, ◌≡◌, ◌∙◌, ℕ, ◌+◌, ◌<◌, ◌≤◌, Bool, true, false, ◌||◌, nat_eq, refl, sym, arith}
use Rattle.std.proofs.lemmas.Bool.Decides.{nat_tests}
use Rattle.std.proofs.lemmas.Bool.{cases_lt}
use Rattle.std.proofs.lemmas.Nat.Bits.{bit_at-zero}
use Rattle.sm_bits.specs.Bits.{has_bit}

-- Of its first n bits the byte has those that the test picks, and it has no others.
pub record ArePicked (picks : ℕ → Bool) (n byte : ℕ) : Type 0 where
  pub below : (b : ℕ) → b < n → has_bit byte b ≡ picks b
  pub above : (b : ℕ) → n ≤ b → has_bit byte b ≡ false

no_bit : (b : ℕ) → has_bit 0 b ≡ false
unfolding has_bit
no_bit b = rw (bit_at-zero b) refl

pub picked_none : (picks : ℕ → Bool) → ArePicked picks 0 0
picked_none picks = record {
  below = λ b lt. absurd (omega arith);
  above = λ b le. no_bit b;
}

-- The next bit is picked.
pub picked_one : (picks : ℕ → Bool) (old new n : ℕ) → ArePicked picks n old → picks n ≡ true
    → ((b : ℕ) → has_bit new b ≡ (has_bit old b || nat_eq b n)) → ArePicked picks (n + 1) new
picked_one picks old new n before is says = record {
  below = λ b lt. elim (cases_lt b n) [
    | inl less ↦ says b ∙ rw (before.below b less) (grind (arith, nat_tests))
    | inr more ↦ (let e : b ≡ n = omega arith in rw e (says n ∙ rw is (grind (arith, nat_tests))))
  ];
  above = λ b le. says b ∙ rw (before.above b (omega arith)) (grind (arith, nat_tests));
}

-- The next bit isn't picked.
pub picked_other : (picks : ℕ → Bool) (byte n : ℕ) → ArePicked picks n byte → picks n ≡ false
    → ArePicked picks (n + 1) byte
picked_other picks byte n before e = record {
  below = λ b lt. elim (cases_lt b n) [
    | inl less ↦ before.below b less
    | inr more ↦ (let is : b ≡ n = omega arith in rw is (before.above n (omega arith) ∙ sym e))
  ];
  above = λ b le. before.above b (omega arith);
}
