use Rattle.std.proofs.Common.{◌≡◌, length}
use Rattle.sm_questions.specs.OneLine.{with_lines}
use Rattle.sm_questions.proofs.one_line.push_lines.Given as goal

abbrev pub invariant-lines : goal.invariant-lines
invariant-lines l = with_lines l.text.items l.further ≡ with_lines l.fn.text.items l.fn.further

abbrev pub decreases-lines : goal.decreases-lines
decreases-lines l = length l.further
