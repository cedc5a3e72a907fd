use Rattle.std.proofs.Common.{◌<◌, [], length, ◌∙◌, arith}
use Rattle.sm_engine.proofs.Results.{on_err}
use Rattle.sm_questions.specs.Parts.{lines_of, names_in, part_lines}
use Rattle.sm_questions.proofs.Anything.{any_held, any_step}
use Rattle.sm_questions.proofs.Buffering.{passes_step, stops_lost, stops_step}
use Rattle.sm_questions.proofs.comparing.put_part.Goals as goal

pub returns-in_err-push-clause-stopped : goal.returns-in_err-push-clause-stopped
unfolding part_lines
returns-in_err-push-clause-stopped g c =
    let names = names_in c.args.part c.args.old.now c.args.new.now in
    let f = lines_of c.args.part c.args.old.now c.args.new.now in
    on_err c.from_residual-in_err-push.result (stops_lost f names c.loop-index.index c.loop-index.invariant.so_far)

pub returns-in_err-write_full-clause-stopped : goal.returns-in_err-write_full-clause-stopped
unfolding part_lines
returns-in_err-write_full-clause-stopped g c =
    let names = names_in c.args.part c.args.old.now c.args.new.now in
    let f = lines_of c.args.part c.args.old.now c.args.new.now in
    let lt : c.loop-index.index < length names = omega (arith, c.count-index-end.ensures) in
    on_err c.from_residual-in_err-write_full.result (stops_step f names c.loop-index.index [] lt
    c.loop-index.invariant.so_far c.in_ok-push.ensures c.in_err-write_full.ensures.stopped)

pub loop-index-preserved : goal.loop-index-preserved
loop-index-preserved g c =
    let names = names_in c.args.part c.args.old.now c.args.new.now in
    let f = lines_of c.args.part c.args.old.now c.args.new.now in
    let lt : c.loop-index.index < length names = omega (arith, c.count-index-end.ensures) in
    record {
      so_far = passes_step f names c.loop-index.index [] lt c.loop-index.invariant.so_far c.in_ok-push.ensures
          c.in_ok-write_full.ensures.ok;
      any = any_step f names c.loop-index.index [] lt c.loop-index.invariant.any
          (any_held c.loop-index.held.items _ c.in_ok-push.ensures)
          (rw (c.len-before.ensures, c.len.ensures, c.loop-index.held.ok.0, c.push.new.held.ok.0)
          at c.either-any.ensures);
      count = c.in_ok-write_full.ensures.count ∙ c.loop-index.invariant.count;
    }
