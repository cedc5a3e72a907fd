use Rattle.std.proofs.Common.{◌≡◌, ◌<◌, ◌&&◌, ℕ, false}
use Rattle.sm_bits.specs.Bits.{has, row}
use Rattle.sm_rules.specs.Keeping.{joins}
use Rattle.sm_matrices.proofs.matrix.rows_meet.Given as goal

abbrev pub invariant-loop-s : goal.invariant-loop-s
invariant-loop-s l = (s t : ℕ) → s < l.s → (has (row l.rows s) t && joins s t l.rule) ≡ false
