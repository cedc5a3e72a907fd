use Rattle.std.proofs.Common.{◌<◌, ◌≤◌, ◌∙◌, ℕ, List, [], Option, ap, length, take, arith}
use Rattle.std.specs.Prelude.{not}
use Rattle.std.specs.List.{flat_map}
use Rattle.sm_engine.proofs.Results.{on_err}
use Rattle.sm_policy.specs.Policy.{Policy}
use Rattle.sm_questions.specs.Buffered.{Passes}
use Rattle.sm_questions.specs.Differences.{differences}
use Rattle.sm_questions.specs.Parts.{all_parts, part_lines}
use Rattle.sm_questions.specs.declared.part.Part.TheVariants.{Lost}
use Rattle.sm_questions.proofs.Buffering.{passes_entry, passes_front, passes_list, passes_whole, stops_end, stops_entry}
use Rattle.sm_questions.proofs.Anything.{any_list, any_step}
use Rattle.sm_questions.proofs.Parting.{all_lines}
use Rattle.sm_questions.proofs.comparing.diff.Goals as goal

pub returns-in_err-more-clause-front : goal.returns-in_err-more-clause-front
returns-in_err-more-clause-front g c =
    let f = part_lines c.args.old.now c.args.new.now in
    let lt : c.loop-part.part-index < length all_parts = omega (arith, c.loop-part-test.true) in
    on_err c.from_residual.result (stops_end (rw (all_lines c.args.old.now c.args.new.now) (stops_entry f all_parts
    c.loop-part.part-index Lost lt c.loop-part.invariant.so_far c.in_err-more.ensures.stopped)))

pub loop-part-preserved : goal.loop-part-preserved
loop-part-preserved g c =
    let f = part_lines c.args.old.now c.args.new.now in
    let lt : c.loop-part.part-index < length all_parts = omega (arith, c.loop-part-test.true) in
    record {
      so_far = passes_entry f all_parts c.loop-part.part-index Lost lt c.loop-part.invariant.so_far
          c.in_ok-more.ensures.ok;
      any = any_step f all_parts c.loop-part.part-index Lost lt c.loop-part.invariant.any c.in_ok-more.ensures.any
          c.either-any.ensures;
      count = c.in_ok-more.ensures.count ∙ c.loop-part.invariant.count;
    }

-- The lines of all parts passed before the last ones are written.
all_passed : {a b : Option (List ℕ)} {held : List ℕ} (old new : Policy) (i : ℕ) → length all_parts ≤ i
    → Passes a b [] held (flat_map (part_lines old new) (take i all_parts)) → Passes a b [] held (differences old new)
all_passed old new i le p = rw (all_lines old new) (passes_list (part_lines old new) all_parts i le p)

pub returns-clause-same : goal.returns-clause-same
returns-clause-same g c = ap not (rw (all_lines c.args.old.now c.args.new.now) (any_list
    (part_lines c.args.old.now c.args.new.now) all_parts c.loop-part.part-index (omega (arith, c.loop-part-test.false))
    c.loop-part.invariant.any))

pub returns-clause-written : goal.returns-clause-written
returns-clause-written g c = passes_whole _ (all_passed c.args.old.now c.args.new.now c.loop-part.part-index
    (omega (arith, c.loop-part-test.false)) c.loop-part.invariant.so_far)
    (rw c.deref.ensures.value at c.in_ok-write_whole.ensures.ok)

pub returns-in_err-write_whole-clause-front : goal.returns-in_err-write_whole-clause-front
returns-in_err-write_whole-clause-front g c =
    let front = rw c.deref.ensures.value at c.in_err-write_whole.ensures.front in
    on_err c.from_residual-in_err-write_whole.result (passes_front _ front.0
    (all_passed c.args.old.now c.args.new.now c.loop-part.part-index (omega (arith, c.loop-part-test.false))
    c.loop-part.invariant.so_far) front.1)
