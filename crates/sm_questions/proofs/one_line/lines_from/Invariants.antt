use Rattle.std.proofs.Common.{◌≡◌, drop, ◌-◌}
use Rattle.sm_contexts.specs.Lines.{lines}
use Rattle.sm_questions.proofs.one_line.lines_from.Given as goal

abbrev pub invariant-lines : goal.invariant-lines
invariant-lines l = drop l.before l.lines ≡ drop (l.fn.number - 1) (lines l.fn.text)

abbrev pub decreases-lines : goal.decreases-lines
decreases-lines l = l.before
