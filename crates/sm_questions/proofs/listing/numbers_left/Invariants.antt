use Rattle.sm_types.specs.Denoting.{types}
use Rattle.sm_questions.proofs.Numbers.{AreFirst}
use Rattle.sm_questions.proofs.listing.numbers_left.Given as goal

abbrev pub invariant-loop-number : goal.invariant-loop-number
invariant-loop-number l = AreFirst (types l.policy.statements) l.wanted l.number l.numbers.items
