use Rattle.std.proofs.lemmas.Result.{on_err_weaker, on_ok_weaker}
use Rattle.sm_engine.proofs.Results.{on_err}
use Rattle.sm_questions.proofs.Buffering.{passes_front, passes_whole, stops_end}
use Rattle.sm_listings.proofs.naming.names.Goals as goal

pub returns-in_err-put_entries-clause-front : goal.returns-in_err-put_entries-clause-front
returns-in_err-put_entries-clause-front g c =
    let stopped = rw c.new-held.ensures.items at c.in_err-put_entries.ensures.stopped in
    on_err c.from_residual.result (stops_end stopped)

pub returns-clause-written : goal.returns-clause-written
returns-clause-written g c =
    let passes = rw c.new-held.ensures.items at c.in_ok-put_entries.ensures.ok in
    on_ok_weaker c.write_whole.result (λ a. passes_whole _ passes a)
    (rw c.deref.ensures.value at c.write_whole.ensures.ok)

pub returns-clause-front : goal.returns-clause-front
returns-clause-front g c =
    let passes = rw c.new-held.ensures.items at c.in_ok-put_entries.ensures.ok in
    on_err_weaker c.write_whole.result (λ f. passes_front _ f.0 passes f.1)
    (rw c.deref.ensures.value at c.write_whole.ensures.front)
