-- Sets of permissions: what the operations of flags say of bits.
use Rattle.std.proofs.Common.{inl, inr, ◌≡◌, ℕ, zero, suc, ◌*◌, ◌%◌, ◌^◌, ◌<◌, ◌&&◌, ◌||◌, eqb, refl}
use Rattle.std.proofs.Common.{min, bit_and, bit_or, arith}
use Rattle.std.specs.Int.{bit_at}
use Rattle.std.proofs.lemmas.Bool.{cases_eq, eq-eqb, ne_eqb}
use Rattle.std.proofs.lemmas.Nat.{one_shl, pow_pos}
use Rattle.std.proofs.lemmas.Nat.Bits.{and_pow, bit_at_and, bit_at-lt}
use Rattle.sm_bits.specs.Bits.{has_bit}
use Rattle.sm_bits.proofs.ByteBits.{bit_added}
use Rattle.sm_values.specs.Permissions.{perm_of, perm_word}
use Rattle.sm_rules.specs.Keeping.{class_at, perm_at}

-- A set contains a single flag if it has the bit.
pub has_flag : (n k : ℕ) → k < 8 → eqb (bit_and n (1 * 2 ^ k % 2 ^ 8)) (1 * 2 ^ k % 2 ^ 8) ≡ has_bit n k
unfolding has_bit
has_flag n k h = rw (one_shl k 8 h, and_pow n k) (elim (cases_eq (bit_at n k) 1) [
  | inl one ↦ rw one (eq-eqb (1 * 2 ^ k) (2 ^ k) (omega arith))
  | inr other ↦ (let none : bit_at n k ≡ 0 = omega (arith, bit_at-lt n k) in
      let apart : 0 * 2 ^ k ≡ 2 ^ k → ⊥ = omega (arith, pow_pos k) in
      rw none (ne_eqb (0 * 2 ^ k) (2 ^ k) apart))
])

-- This is the number of a single permission.
perm_value : (k : ℕ) → k < 7 → (perm_at k).0 ≡ 1 * 2 ^ k % 2 ^ 8
perm_value zero h = refl
perm_value (suc zero) h = refl
perm_value (suc (suc zero)) h = refl
perm_value (suc (suc (suc zero))) h = refl
perm_value (suc (suc (suc (suc zero)))) h = refl
perm_value (suc (suc (suc (suc (suc zero))))) h = refl
perm_value (suc (suc (suc (suc (suc (suc zero)))))) h = refl
perm_value (suc (suc (suc (suc (suc (suc (suc k))))))) h = absurd (omega arith)

-- The union with a single permission has its bit too.
pub perm_added : (n k b : ℕ) → k < 7 → has_bit (bit_or n (perm_at k).0) b ≡ (has_bit n b || eqb b k)
perm_added n k b h = rw (perm_value k h) (bit_added n k b (omega arith))

-- An intersection has the bits that both have.
pub both_bits : (x y b : ℕ) → has_bit (bit_and x y) b ≡ (has_bit x b && has_bit y b)
unfolding has_bit
both_bits x y b =
    rw (bit_at_and x y b) (least (bit_at x b) (bit_at y b) (bit_at-lt x b) (bit_at-lt y b)) where
      least : (c d : ℕ) → c < 2 → d < 2 → eqb (min c d) 1 ≡ (eqb c 1 && eqb d 1)
      least zero zero g h = refl
      least zero (suc zero) g h = refl
      least (suc zero) zero g h = refl
      least (suc zero) (suc zero) g h = refl
      least c (suc (suc d)) g h = absurd (omega arith)
      least (suc (suc c)) d g h = absurd (omega arith)

-- A permission's word is one of its class.
pub word_at : (k : ℕ) → k < 7 → perm_word (perm_at k) ≡ perm_of (class_at k) (perm_at k)
word_at zero h = refl
word_at (suc zero) h = refl
word_at (suc (suc zero)) h = refl
word_at (suc (suc (suc zero))) h = refl
word_at (suc (suc (suc (suc zero)))) h = refl
word_at (suc (suc (suc (suc (suc zero))))) h = refl
word_at (suc (suc (suc (suc (suc (suc zero)))))) h = refl
word_at (suc (suc (suc (suc (suc (suc (suc k))))))) h = absurd (omega arith)
