use Rattle.std.proofs.Common.{◌≡◌, ◌≤◌, ◌+◌, length}
use Rattle.sm_ruletext.specs.Lexing as spec
use Rattle.sm_ruletext.proofs.tokens.skip_blanks.Given as goal

abbrev pub invariant-blanks : goal.invariant-blanks
invariant-blanks l = record {
  same : spec.tokens 0 l.line l.rest ≡ spec.tokens 0 l.fn.start l.fn.bytes;
  small : l.line + length l.rest ≤ l.fn.start + length l.fn.bytes;
}

abbrev pub decreases-blanks : goal.decreases-blanks
decreases-blanks l = length l.rest
