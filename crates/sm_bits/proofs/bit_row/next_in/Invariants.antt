use Rattle.std.proofs.Common.{◌≡◌, ◌<◌, ◌≤◌, ◌*◌, ◌-◌, ℕ, length, false}
use Rattle.sm_bits.specs.Bits.{has}
use Rattle.sm_bits.proofs.bit_row.next_in.Given as goal

abbrev pub invariant-loop-i : goal.invariant-loop-i
invariant-loop-i l = record {
  after : l.fn.from ≤ l.i;
  none : (j : ℕ) → l.fn.from ≤ j → j < l.i → has l.words j ≡ false;
}

abbrev pub decreases-loop-i : goal.decreases-loop-i
decreases-loop-i l = 64 * length l.words - l.i
