use Rattle.std.proofs.Common.{◌-◌, length}
use Rattle.sm_questions.proofs.LineStarts.{StartsBefore}
use Rattle.sm_questions.proofs.line_starts.line_starts.Given as goal

abbrev pub invariant-loop-at : goal.invariant-loop-at
invariant-loop-at l = StartsBefore l.text l.starts.items l.at

abbrev pub decreases-loop-at : goal.decreases-loop-at
decreases-loop-at l = length l.text - l.at
