use Rattle.std.proofs.Common.{◌∙◌, ◌<◌, ℕ, [], length}
use Rattle.sm_engine.proofs.Results.{on_err}
use Rattle.sm_questions.proofs.Buffering.{passes_step, stops_lost, stops_step}
use Rattle.sm_types.specs.Denoting.{types}
use Rattle.sm_listings.specs.Listed.{wanted_type}
use Rattle.sm_listings.proofs.listing.put_types.Goals as goal

pub returns-in_err-push_type-clause-stopped : goal.returns-in_err-push_type-clause-stopped
returns-in_err-push_type-clause-stopped g c =
    let f = wanted_type c.args.policy.now.statements c.args.word.now in
    on_err c.from_residual.result
    (stops_lost f (types c.args.policy.now.statements) c.loop-t.t c.loop-t.invariant.so_far)

pub returns-in_err-write_full-clause-stopped : goal.returns-in_err-write_full-clause-stopped
returns-in_err-write_full-clause-stopped g c =
    let f = wanted_type c.args.policy.now.statements c.args.word.now in
    let i : ℕ = c.loop-t.t in
    let lt : i < length (types c.args.policy.now.statements) = rw (c.count-t-end.ensures.count, c.types.ensures.types) at c.loop-t-test.true in
    on_err c.from_residual-in_err-write_full.result (stops_step f (types c.args.policy.now.statements) i [] lt
    c.loop-t.invariant.so_far c.in_ok-push_type.ensures c.in_err-write_full.ensures.stopped)

pub loop-t-preserved : goal.loop-t-preserved
loop-t-preserved g c =
    let f = wanted_type c.args.policy.now.statements c.args.word.now in
    let i : ℕ = c.loop-t.t in
    let lt : i < length (types c.args.policy.now.statements) = rw (c.count-t-end.ensures.count, c.types.ensures.types) at c.loop-t-test.true in
    record {
      so_far = passes_step f (types c.args.policy.now.statements) i [] lt c.loop-t.invariant.so_far
          c.in_ok-push_type.ensures c.in_ok-write_full.ensures.ok;
      count = c.in_ok-write_full.ensures.count ∙ c.loop-t.invariant.count;
    }
