use Rattle.std.proofs.Common.{◌≡◌, ℕ, ◌/◌, ◌<◌}
use Rattle.sm_bits.specs.Bits.{has}
use Rattle.sm_bits.proofs.bit_row.words_alike.Given as goal

abbrev pub invariant-loop-i : goal.invariant-loop-i
invariant-loop-i l = (j : ℕ) → j / 64 < l.i → has l.words j ≡ has l.others j
