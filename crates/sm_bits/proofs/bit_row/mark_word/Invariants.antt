use Rattle.std.proofs.Common.{◌≡◌, ◌<◌, ◌≤◌, ◌+◌, ◌*◌, ◌-◌, ◌&&◌, ◌||◌, ℕ, length, get_or, nat_eq}
use Rattle.sm_bits.specs.Bits.{has, has_bit}
use Rattle.sm_bits.proofs.bit_row.mark_word.Given as goal

abbrev pub invariant-loop-from : goal.invariant-loop-from
invariant-loop-from l = record {
  within : l.from ≤ 64;
  inside : (j b : ℕ) → j < length l.bytes → 64 * l.place ≤ j → j < 64 * l.place + l.from
      → has_bit (get_or l.bytes j 0) b ≡ (has_bit (get_or l.initial.bytes j 0) b || (has l.words j && nat_eq b l.bit));
  below : (j : ℕ) → j < length l.bytes → j < 64 * l.place → get_or l.bytes j 0 ≡ get_or l.initial.bytes j 0;
  above : (j : ℕ) → j < length l.bytes → 64 * l.place + l.from ≤ j
      → get_or l.bytes j 0 ≡ get_or l.initial.bytes j 0;
}

abbrev pub decreases-loop-from : goal.decreases-loop-from
decreases-loop-from l = 64 - l.from
