use Rattle.std.proofs.Common.{◌≡◌, ◌∷◌, ap, ◌∙◌}
use Rattle.std.proofs.lemmas.Result.{err_from_is_err_and}
use Rattle.sm_history.specs.Checks.{from_manager, transferring}
use Rattle.sm_history.specs.Histories.{effects_of}
use Rattle.sm_history.specs.Records.{moment_of}
use Rattle.sm_history.specs.Services.{service_at}
use Rattle.sm_history.specs.Verdict.{handing_checks}
use Rattle.sm_core.specs.Getting.{sight_checks}
use Rattle.sm_core.proofs.Stopping.{halts_first}
use Rattle.sm_core.proofs.ledger.Ledger.judge_get.Goals as goal

pub returns-in_err-service : goal.returns-in_err-service
returns-in_err-service c =
    let m = moment_of c.args.self.now.book.history in
    let d = effects_of c.args.self.now.book.history in
    let k = c.args.row.now.id in
    let s = service_at d c.args.name.now in
    let found : c.get_by-found.result ≡ s =
    c.get_by-found.ensures d (rw (← c.self.view_is) c.self.invariant.stands.names)
    ∙ ap (service_at d) c.bytes-2.ensures in
    let p = err_from_is_err_and c.from_residual.result c.from_residual.ensures.1 in
    rw (p.1, p.2) (halts_first m _ _ (sight_checks d k c.args.name.now s)
    (from_manager d k transferring ∷ handing_checks d k s) c.in_err-service.field-0.0
    (rw found at c.in_err-service.ensures))
