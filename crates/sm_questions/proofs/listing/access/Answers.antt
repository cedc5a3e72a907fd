use Rattle.std.proofs.lemmas.Result.{on_err_weaker}
use Rattle.sm_engine.proofs.Results.{on_err}
use Rattle.sm_questions.proofs.Buffering.{passes_front, stops_end}
use Rattle.sm_questions.proofs.listing.access.Goals as goal

pub returns-in_err-put_sources-clause-front : goal.returns-in_err-put_sources-clause-front
returns-in_err-put_sources-clause-front g c =
    on_err c.from_residual-in_err-put_sources.result
    (stops_end (rw c.new-held.ensures.items at c.in_err-put_sources.ensures.stopped))

pub returns-clause-front : goal.returns-clause-front
returns-clause-front g c =
    let passes = rw c.new-held.ensures.items at c.in_ok-put_sources.ensures.ok in
    on_err_weaker c.write_whole.result (λ f. passes_front _ f.0 passes f.1)
    (rw c.deref-2.ensures.value at c.write_whole.ensures.front)
