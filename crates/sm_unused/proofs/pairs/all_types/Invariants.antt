use Rattle.std.proofs.Common.{◌≡◌, ◌<◌, ◌+◌, ◌/◌, ℕ, length, true}
use Rattle.sm_bits.specs.Bits.{has}
use Rattle.sm_unused.proofs.pairs.all_types.Given as goal

abbrev pub invariant-loop-number : goal.invariant-loop-number
invariant-loop-number l = record {
  room : length l.row ≡ l.fn.count / 64 + 1;
  all : (i : ℕ) → i < l.number → has l.row i ≡ true;
}
