use Rattle.std.proofs.Common.{◌≡◌, ◌<◌, ℕ, None, get_or, length}
use Rattle.sm_questions.proofs.first_lines.clear.Given as goal

abbrev pub invariant-loop-i : goal.invariant-loop-i
invariant-loop-i l = record {
  room : length l.lines ≡ length l.initial.lines;
  none : (j : ℕ) → j < l.i → get_or l.lines j None ≡ None;
}
