use Rattle.sm_questions.proofs.FirstLines.{AreNearFirst}
use Rattle.sm_questions.proofs.first_lines.gather.Given as goal

abbrev pub invariant-loop-i : goal.invariant-loop-i
invariant-loop-i l = AreNearFirst l.rules l.i l.from l.to l.near.items
