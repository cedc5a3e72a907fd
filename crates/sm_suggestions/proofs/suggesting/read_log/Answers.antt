use Rattle.std.proofs.Common.{◌∙◌, ap, length, arith}
use Rattle.sm_suggestions.proofs.LogSteps.{allowed_step, long_once, skipped_step, tally_step}
use Rattle.sm_suggestions.proofs.suggesting.read_log.Goals as goal

pub lines-preserved : goal.lines-preserved
lines-preserved c = record {
  rulings = c.in_ok-add_line.ensures.rulings;
  tally = tally_step c.args.policy.now c.lines.found.tally c.add_line.new.self.tally c.in-Some.line.now c.lines.lines
      c.take.new.self c.in-Some.ensures.taken c.in_ok-add_line.ensures.tally
      ∙ c.lines.invariant.tally;
  allowed = allowed_step c.args.policy.now c.lines.found.all_allowed c.add_line.new.self.all_allowed
      c.in-Some.line.now c.lines.lines c.take.new.self c.in-Some.ensures.taken c.in_ok-add_line.ensures.allowed
      ∙ c.lines.invariant.allowed;
  skipped = skipped_step c.lines.found.skipped c.add_line.new.self.skipped c.in-Some.line.now c.lines.lines
      c.take.new.self c.in-Some.ensures.taken c.in_ok-add_line.ensures.skipped
      ∙ c.lines.invariant.skipped;
  few = omega (arith, c.lines.invariant.few, ap length c.in-Some.ensures.taken, c.in_ok-add_line.ensures.few);
  short = omega (
    arith,
    c.lines.invariant.short,
    ap length c.in-Some.ensures.taken,
    c.in_ok-add_line.ensures.skipped,
    long_once c.in-Some.line.now,
  );
}
