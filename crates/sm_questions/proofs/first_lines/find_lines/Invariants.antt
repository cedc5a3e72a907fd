use Rattle.std.proofs.Common.{◌≡◌, ◌<◌, ℕ, length, take}
use Rattle.sm_rules.specs.Keeping.{covered_line}
use Rattle.sm_questions.specs.FirstLines.{line_in, rules_at}
use Rattle.sm_questions.proofs.first_lines.find_lines.Given as goal

abbrev pub invariant-loop-index : goal.invariant-loop-index
invariant-loop-index l = record {
  room : length l.lines ≡ length l.initial.lines;
  found : (b t : ℕ) → b < 7
      → line_in l.lines b t ≡ covered_line (rules_at l.rules (take l.index-index l.near)) b l.source t;
}
