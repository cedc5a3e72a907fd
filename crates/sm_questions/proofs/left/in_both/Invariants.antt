use Rattle.std.proofs.Common.{◌≡◌, ◌<◌, ◌≤◌, ◌+◌, ◌/◌, ◌&&◌, ℕ, length, false}
use Rattle.sm_bits.specs.Bits.{has}
use Rattle.sm_questions.proofs.left.in_both.Given as goal

abbrev pub invariant-loop-number : goal.invariant-loop-number
invariant-loop-number l = record {
  room : length l.row ≡ l.fn.count / 64 + 1;
  common : (i : ℕ) → i < l.number → has l.row i ≡ (has l.first i && has l.second i);
  past : (i : ℕ) → l.number ≤ i → has l.row i ≡ false;
}
