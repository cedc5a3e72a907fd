use Rattle.std.proofs.lemmas.Result.{on_err_weaker}
use Rattle.sm_engine.proofs.Results.{on_err}
use Rattle.sm_questions.proofs.Buffering.{passes_front, stops_end}
use Rattle.sm_questions.proofs.judging.put_all.Goals as goal

pub returns-in_err-put_violations-clause-front : goal.returns-in_err-put_violations-clause-front
returns-in_err-put_violations-clause-front g c =
    let stopped = rw c.new-held.ensures.items at c.in_err-put_violations.ensures.stopped in
    on_err c.from_residual.result (rw c.in-Ok.ensures (stops_end stopped))

pub returns-clause-front : goal.returns-clause-front
returns-clause-front g c =
    let passes = rw c.new-held.ensures.items at c.in_ok-put_violations.ensures.ok in
    on_err_weaker c.write_whole.result (λ f. rw c.in-Ok.ensures (passes_front _ f.0 passes f.1))
    (rw c.deref.ensures.value at c.write_whole.ensures.front)
