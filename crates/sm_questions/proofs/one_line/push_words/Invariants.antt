use Rattle.std.proofs.Common.{◌≡◌, true, drop}
use Rattle.sm_questions.specs.OneLine.{with_words}
use Rattle.sm_questions.proofs.one_line.push_words.Given as goal

abbrev pub invariant-loop-byte : goal.invariant-loop-byte
invariant-loop-byte l = with_words l.owes l.text.items (drop l.byte-index l.line) ≡ with_words true l.fn.text.items l.line
