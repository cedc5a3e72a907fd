use Rattle.std.proofs.Common.{◌≡◌, ◌<◌, ◌&&◌, ℕ, false}
use Rattle.sm_bits.specs.Bits.{has_bit}
use Rattle.sm_neverallow.proofs.violation.common_bit.Given as goal

abbrev pub invariant-loop-bit : goal.invariant-loop-bit
invariant-loop-bit l = (b : ℕ) → b < l.bit → (has_bit l.fn.first.0 b && has_bit l.fn.second.0 b) ≡ false
