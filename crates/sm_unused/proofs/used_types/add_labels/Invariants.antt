use Rattle.std.proofs.Common.{◌≡◌, ◌<◌, ◌||◌, ℕ, length, take}
use Rattle.sm_bits.specs.Bits.{has}
use Rattle.sm_types.specs.Denoting.{types}
use Rattle.sm_types.specs.Names.{at}
use Rattle.sm_unused.specs.Declarations.{is_of_label}
use Rattle.sm_unused.proofs.used_types.add_labels.Given as goal

abbrev pub invariant-loop-i : goal.invariant-loop-i
invariant-loop-i l = record {
  room : length l.row ≡ length l.initial.row;
  added : (t : ℕ) → t < length (types l.fn.policy.statements) → has l.row t ≡ (has l.initial.row t
      || is_of_label (take l.i l.fn.policy.entries) (at (types l.fn.policy.statements) t));
}
