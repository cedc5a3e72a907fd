use Rattle.std.proofs.Common.{◌≡◌, ◌<◌, ◌*◌, ◌&&◌, ℕ, false}
use Rattle.sm_bits.specs.Bits.{has, row}
use Rattle.sm_matrices.specs.Matrices.{matrix}
use Rattle.sm_violations.proofs.bounds.may_meet.Given as goal

abbrev pub invariant-loop-block : goal.invariant-loop-block
invariant-loop-block l = (s t : ℕ) → s < 64 * l.block → s < l.fn.count
    → (has l.rule.sources s && (has l.rule.targets t && has (row (matrix l.matrices l.fn.bit) s) t)) ≡ false
