use Rattle.std.proofs.Common.{◌≡◌, ◌<◌, ◌≤◌, ◌*◌, ◌&&◌, ℕ, false}
use Rattle.sm_bits.specs.Bits.{has, row}
use Rattle.sm_matrices.specs.Matrices.{matrix}
use Rattle.sm_violations.proofs.bounds.meets_in_block.Given as goal

abbrev pub invariant-loop-s : goal.invariant-loop-s
invariant-loop-s l = (s t : ℕ) → 64 * l.fn.block ≤ s → s < l.s
    → (has l.rule.sources s && (has l.rule.targets t && has (row (matrix l.matrices l.fn.bit) s) t)) ≡ false
