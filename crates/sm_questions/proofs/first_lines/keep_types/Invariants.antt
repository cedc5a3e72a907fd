use Rattle.std.proofs.Common.{◌≡◌, ◌<◌, ◌*◌, ◌-◌, ◌&&◌, ℕ, length, nat_lt}
use Rattle.sm_bits.specs.Bits.{has, has_bit}
use Rattle.sm_questions.specs.FirstLines.{kept_line, line_in}
use Rattle.sm_questions.proofs.first_lines.keep_types.Given as goal

abbrev pub invariant-loop-number : goal.invariant-loop-number
invariant-loop-number l = record {
  room : length l.lines ≡ length l.initial.lines;
  kept : (b t : ℕ) → b < 7 → line_in l.lines b t
      ≡ kept_line (nat_lt t l.from && (has l.set t && has_bit l.rule.perms.0 b)) l.rule.line
      (line_in l.initial.lines b t);
}

abbrev pub decreases-loop-number : goal.decreases-loop-number
decreases-loop-number l = 64 * length l.set - l.from
