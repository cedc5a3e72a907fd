use Rattle.std.proofs.Common.{◌≡◌, ◌<◌, ◌&&◌, ℕ, false}
use Rattle.sm_bits.specs.Bits.{has_bit}
use Rattle.sm_violations.proofs.clash.first_perm.Given as goal

abbrev pub invariant-loop-bit : goal.invariant-loop-bit
invariant-loop-bit l = (b : ℕ) → b < l.bit → (has_bit l.allow.perms.0 b && has_bit l.never.perms.0 b) ≡ false
