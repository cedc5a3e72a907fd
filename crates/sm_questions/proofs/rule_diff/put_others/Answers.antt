use Rattle.std.proofs.Common.{◌<◌, ◌∙◌, length, arith}
use Rattle.sm_engine.proofs.Results.{on_err}
use Rattle.sm_questions.specs.Parts.{other_parts, part_lines}
use Rattle.sm_questions.specs.declared.part.Part.TheVariants.{Lost}
use Rattle.sm_questions.proofs.Anything.{any_list, any_step}
use Rattle.sm_questions.proofs.Buffering.{passes_entry, passes_list, stops_entry}
use Rattle.sm_questions.proofs.Parting.{other_lines}
use Rattle.sm_questions.proofs.rule_diff.put_others.Goals as goal

pub returns-in_err-more-clause-stopped : goal.returns-in_err-more-clause-stopped
returns-in_err-more-clause-stopped g c =
    let f = part_lines c.args.old.now c.args.new.now in
    let lt : c.loop-part.part-index < length other_parts = omega (arith, c.loop-part-test.true) in
    on_err c.from_residual.result (rw (other_lines c.args.old.now c.args.new.now) (stops_entry f other_parts
    c.loop-part.part-index Lost lt c.loop-part.invariant.so_far c.in_err-more.ensures.stopped))

pub loop-part-preserved : goal.loop-part-preserved
loop-part-preserved g c =
    let f = part_lines c.args.old.now c.args.new.now in
    let lt : c.loop-part.part-index < length other_parts = omega (arith, c.loop-part-test.true) in
    record {
      so_far = passes_entry f other_parts c.loop-part.part-index Lost lt c.loop-part.invariant.so_far
          c.in_ok-more.ensures.ok;
      any = any_step f other_parts c.loop-part.part-index Lost lt c.loop-part.invariant.any c.in_ok-more.ensures.any
          c.either-any.ensures;
      count = c.in_ok-more.ensures.count ∙ c.loop-part.invariant.count;
    }

pub returns-clause-ok : goal.returns-clause-ok
returns-clause-ok g c = rw (other_lines c.args.old.now c.args.new.now) (passes_list
    (part_lines c.args.old.now c.args.new.now) other_parts c.loop-part.part-index
    (omega (arith, c.loop-part-test.false)) c.loop-part.invariant.so_far)

pub returns-clause-any : goal.returns-clause-any
returns-clause-any g c = rw (other_lines c.args.old.now c.args.new.now) (any_list
    (part_lines c.args.old.now c.args.new.now) other_parts c.loop-part.part-index
    (omega (arith, c.loop-part-test.false)) c.loop-part.invariant.any)
