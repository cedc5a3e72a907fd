use Rattle.std.proofs.Common.{◌≡◌, ◌<◌, ◌&&◌, ℕ, false}
use Rattle.sm_bits.specs.Bits.{has, row}
use Rattle.sm_rules.specs.Keeping.{covers}
use Rattle.sm_matrices.specs.Matrices.{matrix}
use Rattle.sm_violations.proofs.bounds.may_be_broken.Given as goal

abbrev pub invariant-loop-bit : goal.invariant-loop-bit
invariant-loop-bit l = (b s t : ℕ) → b < l.bit → s < l.fn.count
    → (has (row (matrix l.matrices b) s) t && covers b s t l.never) ≡ false
