use Rattle.std.proofs.Common.{◌<◌, [], length, ◌∙◌, arith}
use Rattle.sm_engine.proofs.Results.{on_err}
use Rattle.sm_types.specs.Denoting.{types}
use Rattle.sm_questions.specs.Accesses.{access_lines, source_lines}
use Rattle.sm_questions.proofs.Buffering.{passes_step, stops_lost, stops_step}
use Rattle.sm_questions.proofs.listing.put_sources.Goals as goal

pub returns-in_err-push_source-clause-stopped : goal.returns-in_err-push_source-clause-stopped
unfolding access_lines
returns-in_err-push_source-clause-stopped g c =
    let names = types c.args.policy.now.statements in
    let f = source_lines c.args.policy.now c.args.filter.now in
    on_err c.from_residual.result (stops_lost f names c.loop-source.source c.loop-source.invariant.so_far)

pub returns-in_err-write_full-clause-stopped : goal.returns-in_err-write_full-clause-stopped
unfolding access_lines
returns-in_err-write_full-clause-stopped g c =
    let names = types c.args.policy.now.statements in
    let f = source_lines c.args.policy.now c.args.filter.now in
    let lt : c.loop-source.source < length names = omega (arith, c.type_count-source-end.ensures) in
    on_err c.from_residual-in_err-write_full.result (stops_step f names c.loop-source.source [] lt
    c.loop-source.invariant.so_far c.in_ok-push_source.ensures.lines c.in_err-write_full.ensures.stopped)

pub loop-source-preserved : goal.loop-source-preserved
loop-source-preserved g c =
    let names = types c.args.policy.now.statements in
    let f = source_lines c.args.policy.now c.args.filter.now in
    let lt : c.loop-source.source < length names = omega (arith, c.type_count-source-end.ensures) in
    record {
      table = c.in_ok-push_source.ensures.table;
      so_far = passes_step f names c.loop-source.source [] lt c.loop-source.invariant.so_far
          c.in_ok-push_source.ensures.lines c.in_ok-write_full.ensures.ok;
      count = c.in_ok-write_full.ensures.count ∙ c.loop-source.invariant.count;
    }
