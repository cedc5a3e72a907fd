use Rattle.std.proofs.Common.{◌≡◌, length}
use Rattle.sm_questions.specs.AllShown.{with_numbers}
use Rattle.sm_questions.proofs.showing_all.add_numbers.Given as goal

abbrev pub invariant-violations : goal.invariant-violations
invariant-violations l =
    with_numbers l.numbers.keys l.violations ≡ with_numbers l.fn.numbers.keys l.fn.violations

abbrev pub decreases-violations : goal.decreases-violations
decreases-violations l = length l.violations
