use Rattle.std.proofs.lemmas.Result.{on_err_weaker, on_ok_weaker}
use Rattle.sm_engine.proofs.Results.{on_err}
use Rattle.sm_questions.proofs.Buffering.{passes_front, passes_then, passes_whole, stops_end, stops_more, stops_then}
use Rattle.sm_listings.specs.Listed as spec
use Rattle.sm_listings.proofs.listing.types.Goals as goal

pub returns-in_err-put_types-clause-front : goal.returns-in_err-put_types-clause-front
unfolding spec.type_lines
returns-in_err-put_types-clause-front g c =
    let stopped = rw c.new-held.ensures.items at c.in_err-put_types.ensures.stopped in
    on_err c.from_residual.result (stops_end (stops_more _ _ stopped))

pub returns-in_err-put_attributes-clause-front : goal.returns-in_err-put_attributes-clause-front
unfolding spec.type_lines
returns-in_err-put_attributes-clause-front g c =
    let first = rw c.new-held.ensures.items at c.in_ok-put_types.ensures.ok in
    on_err c.from_residual-in_err-put_attributes.result
    (stops_end (stops_then _ _ first c.in_err-put_attributes.ensures.stopped))

pub returns-clause-written : goal.returns-clause-written
unfolding spec.type_lines
returns-clause-written g c =
    let first = rw c.new-held.ensures.items at c.in_ok-put_types.ensures.ok in
    let passes = passes_then _ _ first c.in_ok-put_attributes.ensures.ok in
    on_ok_weaker c.write_whole.result (λ a. passes_whole _ passes a) (rw c.deref.ensures.value at c.write_whole.ensures.ok)

pub returns-clause-front : goal.returns-clause-front
unfolding spec.type_lines
returns-clause-front g c =
    let first = rw c.new-held.ensures.items at c.in_ok-put_types.ensures.ok in
    let passes = passes_then _ _ first c.in_ok-put_attributes.ensures.ok in
    on_err_weaker c.write_whole.result (λ f. passes_front _ f.0 passes f.1)
    (rw c.deref.ensures.value at c.write_whole.ensures.front)
