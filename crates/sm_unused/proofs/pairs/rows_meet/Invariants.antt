use Rattle.std.proofs.Common.{◌≡◌, ◌<◌, ◌*◌, ◌-◌, ◌&&◌, ℕ, false, length}
use Rattle.sm_bits.specs.Bits.{has, row}
use Rattle.sm_rules.specs.Keeping.{joins}
use Rattle.sm_unused.proofs.pairs.rows_meet.Given as goal

abbrev pub invariant-loop-s : goal.invariant-loop-s
invariant-loop-s l = (s t : ℕ) → s < l.from → (has (row l.rows s) t && joins s t l.rule) ≡ false

abbrev pub decreases-loop-s : goal.decreases-loop-s
decreases-loop-s l = 64 * length l.rule.sources - l.from
