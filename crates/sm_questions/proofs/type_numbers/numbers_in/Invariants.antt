use Rattle.std.proofs.Common.{◌≡◌, map, take}
use Rattle.sm_types.specs.Denoting.{types}
use Rattle.sm_policy.specs.Policy.{type_index}
use Rattle.sm_questions.proofs.type_numbers.numbers_in.Given as goal

abbrev pub invariant-loop-index : goal.invariant-loop-index
invariant-loop-index l = l.numbers.items ≡ map (type_index l.other) (take l.index (types l.one.statements))
