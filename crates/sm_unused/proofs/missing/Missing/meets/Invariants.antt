use Rattle.std.proofs.Common.{◌≡◌, ◌<◌, ◌&&◌, ℕ, false}
use Rattle.sm_rules.specs.Keeping.{covers}
use Rattle.sm_unused.specs.Missing.{is_missing}
use Rattle.sm_unused.proofs.missing.Missing.meets.Given as goal

abbrev pub invariant-loop-bit : goal.invariant-loop-bit
invariant-loop-bit l = (b s t : ℕ) → b < l.bit → s < l.self.count
    → (is_missing l.self.pairs.items b s t && covers b s t l.rule) ≡ false
