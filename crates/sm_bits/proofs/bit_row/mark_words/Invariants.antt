use Rattle.std.proofs.Common.{◌≡◌, ◌<◌, ◌≤◌, ◌/◌, ◌&&◌, ◌||◌, ℕ, length, get_or, nat_eq}
use Rattle.sm_bits.specs.Bits.{has, has_bit}
use Rattle.sm_bits.proofs.bit_row.mark_words.Given as goal

abbrev pub invariant-loop-place : goal.invariant-loop-place
invariant-loop-place l = record {
  done : (j b : ℕ) → j < length l.bytes → j / 64 < l.place
      → has_bit (get_or l.bytes j 0) b ≡ (has_bit (get_or l.initial.bytes j 0) b || (has l.words j && nat_eq b l.bit));
  left : (j : ℕ) → j < length l.bytes → l.place ≤ j / 64 → get_or l.bytes j 0 ≡ get_or l.initial.bytes j 0;
}
