use Rattle.std.proofs.Common.{◌≡◌, ◌<◌, ◌≤◌, ◌+◌, ◌*◌, ◌/◌, ℕ, length, true}
use Rattle.sm_bits.specs.Bits.{has, row}
use Rattle.sm_matrices.specs.Matrices.{matrix}
use Rattle.sm_violations.proofs.bounds.block_of.Given as goal

abbrev pub invariant-loop-s : goal.invariant-loop-s
invariant-loop-s l = record {
  room : length l.bound ≡ l.fn.count / 64 + 1;
  targets : (s t : ℕ) → 64 * l.fn.block ≤ s → s < l.s → has (row (matrix l.matrices l.fn.bit) s) t ≡ true
      → has l.bound t ≡ true;
}
