use Rattle.std.proofs.Common.{◌≡◌, ◌≤◌, length}
use Rattle.sm_ruletext.specs.Statements.{skipped_at}
use Rattle.sm_ruletext.proofs.reading.skipped.Given as goal

abbrev pub invariant-skipped : goal.invariant-skipped
invariant-skipped l = record {
  same : skipped_at l.line l.tokens ≡ skipped_at l.line l.fn.tokens;
  few : length l.tokens ≤ length l.fn.tokens;
}

abbrev pub decreases-skipped : goal.decreases-skipped
decreases-skipped l = length l.tokens
