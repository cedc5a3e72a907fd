use Rattle.std.proofs.Common.{◌≡◌, ◌<◌, ℕ}
use Rattle.sm_bits.specs.Bits.{has, row}
use Rattle.sm_matrices.specs.Matrices.{matrix}
use Rattle.sm_matrices.proofs.source_row.rows_alike.Given as goal

abbrev pub invariant-loop-bit : goal.invariant-loop-bit
invariant-loop-bit l = (t b : ℕ) → t < l.end → b < l.bit
    → has (row (matrix l.one b) l.source) t ≡ has (row (matrix l.other b) l.theirs) t
