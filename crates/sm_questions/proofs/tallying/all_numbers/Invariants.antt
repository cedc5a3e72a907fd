use Rattle.sm_questions.specs.Tallies.{AreAll}
use Rattle.sm_questions.proofs.tallying.all_numbers.Given as goal

abbrev pub invariant-loop-number : goal.invariant-loop-number
invariant-loop-number l = AreAll l.number l.numbers.items
