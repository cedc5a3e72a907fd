use Rattle.std.proofs.Common.{◌≡◌, length}
use Rattle.sm_types.specs.Names.{at}
use Rattle.sm_questions.specs.Shown.{line_at}
use Rattle.sm_questions.proofs.showing.line_at.Given as goal

abbrev pub invariant-lines : goal.invariant-lines
invariant-lines l = at l.lines l.before ≡ line_at l.fn.text l.fn.number

abbrev pub decreases-lines : goal.decreases-lines
decreases-lines l = length l.lines
