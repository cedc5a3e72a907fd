use Rattle.sm_engine.proofs.Results.{on_err}
use Rattle.sm_questions.proofs.Buffering.{stops_front}
use Rattle.sm_questions.proofs.buffer.write_full.Goals as goal

pub returns-in_err-write_whole-clause-stopped : goal.returns-in_err-write_whole-clause-stopped
returns-in_err-write_whole-clause-stopped g c =
    let f = rw c.deref.ensures.value at c.in_err-write_whole.ensures.front in
    on_err c.from_residual.result (stops_front _ _ c.args.held.now.items f.0 f.1)
