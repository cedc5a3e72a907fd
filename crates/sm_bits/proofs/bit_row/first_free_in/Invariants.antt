use Rattle.std.proofs.Common.{◌≡◌, ℕ, ◌/◌, ◌*◌, ◌<◌, ◌≤◌, true}
use Rattle.sm_bits.specs.Bits.{has}
use Rattle.sm_bits.proofs.bit_row.first_free_in.Given as goal

abbrev pub invariant-loop-i : goal.invariant-loop-i
invariant-loop-i l = (j : ℕ) → 64 * l.first ≤ j → j / 64 < l.i → has l.words j ≡ true
