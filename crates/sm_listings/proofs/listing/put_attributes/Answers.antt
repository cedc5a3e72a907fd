use Rattle.std.proofs.Common.{◌∙◌, ◌<◌, ℕ, [], length}
use Rattle.sm_engine.proofs.Results.{on_err}
use Rattle.sm_questions.proofs.Buffering.{passes_step, stops_lost, stops_step}
use Rattle.sm_types.specs.Denoting.{attributes}
use Rattle.sm_listings.specs.Listed.{wanted_attribute}
use Rattle.sm_listings.proofs.listing.put_attributes.Goals as goal

pub returns-in_err-push_attribute-clause-stopped : goal.returns-in_err-push_attribute-clause-stopped
returns-in_err-push_attribute-clause-stopped g c =
    let f = wanted_attribute c.args.policy.now.statements c.args.word.now in
    on_err c.from_residual.result
    (stops_lost f (attributes c.args.policy.now.statements) c.loop-a.a c.loop-a.invariant.so_far)

pub returns-in_err-write_full-clause-stopped : goal.returns-in_err-write_full-clause-stopped
returns-in_err-write_full-clause-stopped g c =
    let f = wanted_attribute c.args.policy.now.statements c.args.word.now in
    let i : ℕ = c.loop-a.a in
    let lt : i < length (attributes c.args.policy.now.statements) = rw (c.attribute_count-a-end.ensures, c.types.ensures.attributes) at c.loop-a-test.true in
    on_err c.from_residual-in_err-write_full.result (stops_step f (attributes c.args.policy.now.statements) i [] lt
    c.loop-a.invariant.so_far c.in_ok-push_attribute.ensures c.in_err-write_full.ensures.stopped)

pub loop-a-preserved : goal.loop-a-preserved
loop-a-preserved g c =
    let f = wanted_attribute c.args.policy.now.statements c.args.word.now in
    let i : ℕ = c.loop-a.a in
    let lt : i < length (attributes c.args.policy.now.statements) = rw (c.attribute_count-a-end.ensures, c.types.ensures.attributes) at c.loop-a-test.true in
    record {
      so_far = passes_step f (attributes c.args.policy.now.statements) i [] lt c.loop-a.invariant.so_far
          c.in_ok-push_attribute.ensures c.in_ok-write_full.ensures.ok;
      count = c.in_ok-write_full.ensures.count ∙ c.loop-a.invariant.count;
    }
