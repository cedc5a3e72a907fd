-- The numbers in one policy of the types of another.
use Rattle.std.specs.Prelude.{◌≡◌, ◌<◌, ◌≤◌, ℕ, length, map, Some, None}
use Rattle.std.proofs.Common.{get_or}
use Rattle.sm_types.specs.Denoting.{types}
use Rattle.sm_policy.specs.Policy.{Policy, type_index}
use Rattle.sm_questions.specs.declared.type_numbers.TypeNumbers.{TypeNumbers}

-- The types of one policy have these numbers in the other one. The first ones have the same number in both.
pub record AreNumbersIn (one other : Policy) (n : TypeNumbers) : Type 0 where
  pub numbers : n.numbers.items ≡ map (type_index other) (types one.statements)
  pub within : n.same ≤ length (types one.statements)
  pub same : (i : ℕ) → i < n.same → get_or n.numbers.items i None ≡ Some i
