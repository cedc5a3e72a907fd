use Rattle.std.proofs.Common.{◌≡◌, ℕ, ◌<◌, ◌≤◌, true}
use Rattle.sm_bits.specs.Bits.{has}
use Rattle.sm_bits.proofs.bit_row.BitRow.first_free_before.Given as goal

abbrev pub invariant-loop-i : goal.invariant-loop-i
invariant-loop-i l = (j : ℕ) → l.from ≤ j → j < l.i → has l.self j ≡ true
