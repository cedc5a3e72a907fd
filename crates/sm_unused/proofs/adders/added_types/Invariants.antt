use Rattle.std.proofs.Common.{◌≡◌, ◌<◌, ◌+◌, ◌/◌, ℕ, length, take}
use Rattle.std.specs.List.{list_any}
use Rattle.sm_bits.specs.Bits.{has}
use Rattle.sm_values.specs.Permissions.{bit}
use Rattle.sm_values.specs.declared.class.Class.TheVariants.{ServiceManager}
use Rattle.sm_types.specs.Denoting.{types}
use Rattle.sm_types.specs.Names.{at}
use Rattle.sm_policy.specs.Policy.{allowed}
use Rattle.sm_unused.proofs.adders.added_types.Given as goal

abbrev pub invariant-loop-s : goal.invariant-loop-s
invariant-loop-s l = record {
  room : length l.row ≡ length (types l.policy.statements) / 64 + 1;
  added : (t : ℕ) → t < length (types l.policy.statements) → has l.row t
      ≡ list_any (λ s. allowed l.policy s (at (types l.policy.statements) t) ServiceManager (bit 1))
      (take l.s (types l.policy.statements));
}
