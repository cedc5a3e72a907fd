use Rattle.std.proofs.Common.{◌≡◌, ◌<◌, ◌+◌, ◌/◌, ℕ, length, true}
use Rattle.sm_bits.specs.Bits.{has, row}
use Rattle.sm_matrices.specs.Matrices.{matrix}
use Rattle.sm_violations.proofs.bounds.own_of.Given as goal

abbrev pub invariant-loop-s : goal.invariant-loop-s
invariant-loop-s l = record {
  room : length l.own ≡ l.fn.count / 64 + 1;
  own : (s : ℕ) → s < l.s → has (row (matrix l.matrices l.fn.bit) s) s ≡ true → has l.own s ≡ true;
}
