use Rattle.std.proofs.Common.{◌≡◌, ◌<◌, ◌+◌, ◌/◌, ℕ, length, true}
use Rattle.sm_bits.specs.Bits.{has, row}
use Rattle.sm_matrices.proofs.matrix.all_targets.Given as goal

abbrev pub invariant-loop-s : goal.invariant-loop-s
invariant-loop-s l = record {
  room : length l.targets ≡ l.fn.count / 64 + 1;
  all : (s t : ℕ) → s < l.s → has (row l.rows s) t ≡ true → has l.targets t ≡ true;
}
