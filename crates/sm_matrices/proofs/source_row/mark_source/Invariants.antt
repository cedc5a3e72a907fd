use Rattle.std.proofs.Common.{◌≡◌, ◌<◌, ◌≤◌, ℕ, get_or, false}
use Rattle.sm_bits.specs.Bits.{has, has_bit, row}
use Rattle.sm_matrices.specs.Matrices.{matrix}
use Rattle.sm_matrices.proofs.source_row.mark_source.Given as goal

abbrev pub invariant-loop-bit : goal.invariant-loop-bit
invariant-loop-bit l = record {
  below : (t b : ℕ) → t < l.fn.count → b < l.bit
      → has_bit (get_or l.bytes t 0) b ≡ has (row (matrix l.matrices b) l.source) t;
  above : (t b : ℕ) → t < l.fn.count → l.bit ≤ b → has_bit (get_or l.bytes t 0) b ≡ false;
}
