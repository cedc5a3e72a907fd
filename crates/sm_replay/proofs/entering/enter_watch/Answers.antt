use Rattle.std.proofs.Common.{List, ℕ, ap, sym, ◌∙◌}
use Rattle.sm_history.specs.Services.{service_at}
use Rattle.sm_replay.proofs.EnteringEvents.{watch_step}
use Rattle.sm_replay.proofs.entering.enter_watch.Goals as goal

pub returns : goal.returns
returns c d s tr done =
    let found = sym (c.service-service.ensures d tr ∙ ap (λ (n : List ℕ). service_at d n) c.bytes.ensures)
    ∙ c.in-Some.is in
    watch_step d c.args.client c.args.name.now c.in_ok-clone.field-0 c.args.object c.in-Some.service c.in-Watched.told
    c.in-Some-told.notice c.get.result.now c.args.outcome.now c.args.tables.now c.watch.new.tables c.tell.new.tables s tr
    done c.in-Watched.is c.in-Some-told.is c.get.ensures found c.in_ok-clone.ensures.cases c.in_ok-watch.ensures
    c.in_ok-tell.ensures
