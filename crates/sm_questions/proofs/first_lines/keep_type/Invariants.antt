use Rattle.std.proofs.Common.{◌≡◌, ◌<◌, ◌&&◌, ℕ, length, nat_eq, nat_lt}
use Rattle.sm_bits.specs.Bits.{has_bit}
use Rattle.sm_questions.specs.FirstLines.{kept_line, line_in}
use Rattle.sm_questions.proofs.first_lines.keep_type.Given as goal

abbrev pub invariant-loop-bit : goal.invariant-loop-bit
invariant-loop-bit l = record {
  room : length l.lines ≡ length l.initial.lines;
  kept : (b t : ℕ) → b < 7 → line_in l.lines b t
      ≡ kept_line (nat_eq t l.number && (nat_lt b l.bit && has_bit l.rule.perms.0 b)) l.rule.line
      (line_in l.initial.lines b t);
}
