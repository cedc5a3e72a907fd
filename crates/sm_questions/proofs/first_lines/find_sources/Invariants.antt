use Rattle.std.proofs.Common.{◌≡◌, ◌<◌, ℕ, length, take}
use Rattle.sm_rules.specs.Keeping.{covered_line}
use Rattle.sm_questions.specs.FirstLines.{line_in}
use Rattle.sm_questions.proofs.first_lines.find_sources.Given as goal

abbrev pub invariant-loop-rule : goal.invariant-loop-rule
invariant-loop-rule l = record {
  room : length l.lines ≡ length l.initial.lines;
  found : (b s : ℕ) → b < 7
      → line_in l.lines b s ≡ covered_line (take l.rule-index l.rules) b s l.target;
}
