-- Bytes without bits.
use Rattle.std.proofs.Common.{◌≡◌, ℕ, ◌<◌, replicate, false, get_or, refl}
use Rattle.std.proofs.lemmas.List.{get_or-replicate}
use Rattle.std.proofs.lemmas.Nat.Bits.{bit_at-zero}
use Rattle.sm_bits.specs.Bits.{has_bit}

-- Bytes that are 0 have no bits.
pub no_bits : (n t b : ℕ) → t < n → has_bit (get_or (replicate n 0) t 0) b ≡ false
unfolding has_bit
no_bits n t b h = rw (get_or-replicate {A = ℕ} n t 0 0 h, bit_at-zero b) refl
