use Rattle.std.proofs.Common.{◌∙◌}
use Rattle.sm_engine.proofs.Results.{on_err}
use Rattle.sm_questions.proofs.Verdicts.{so_far_lost, so_far_more, so_far_stops}
use Rattle.sm_questions.proofs.judging.put_violations.Goals as goal

pub returns-in_err-violation-clause-stopped : goal.returns-in_err-violation-clause-stopped
returns-in_err-violation-clause-stopped g c = on_err c.from_residual.result
    (so_far_lost c.args.violations.now c.violations.violations c.violations.invariant.so_far)

pub returns-in_err-push_violation-clause-stopped : goal.returns-in_err-push_violation-clause-stopped
returns-in_err-push_violation-clause-stopped g c = on_err c.from_residual-in_err-push_violation.result
    (so_far_lost c.args.violations.now c.violations.violations c.violations.invariant.so_far)

pub returns-in_err-write_full-clause-stopped : goal.returns-in_err-write_full-clause-stopped
returns-in_err-write_full-clause-stopped g c = on_err c.from_residual-in_err-write_full.result
    (so_far_stops c.args.violations.now c.violations.violations c.take.new.self c.in-Some.violation
    c.violations.invariant.so_far (rw c.in-Some.is at c.in_ok-violation.ensures.taken) c.in_ok-push_violation.ensures
    c.in_err-write_full.ensures.stopped)

pub violations-preserved : goal.violations-preserved
violations-preserved g c = record {
  so_far = so_far_more c.args.violations.now c.violations.violations c.take.new.self c.in-Some.violation
      c.violations.invariant.so_far (rw c.in-Some.is at c.in_ok-violation.ensures.taken) c.in_ok-push_violation.ensures
      c.in_ok-write_full.ensures.ok;
  count = c.in_ok-write_full.ensures.count ∙ c.violations.invariant.count;
}
