use Rattle.std.proofs.Common.{◌≡◌, ◌<◌, ◌≤◌, ◌+◌, ◌/◌, ℕ, length, false}
use Rattle.sm_bits.specs.Bits.{has}
use Rattle.sm_types.specs.Names.{at}
use Rattle.sm_types.specs.Denoting.{types}
use Rattle.sm_questions.specs.Accesses.{is_left}
use Rattle.sm_questions.proofs.left.types_left.Given as goal

abbrev pub invariant-loop-number : goal.invariant-loop-number
invariant-loop-number l = record {
  room : length l.row ≡ length (types l.policy.statements) / 64 + 1;
  left : (i : ℕ) → i < l.number → has l.row i ≡ is_left l.wanted (at (types l.policy.statements) i);
  past : (i : ℕ) → l.number ≤ i → has l.row i ≡ false;
}
