use Rattle.std.proofs.Common.{◌≡◌, ◌∙◌}
use Rattle.std.proofs.lemmas.Result.{IfOk-weaker}
use Rattle.sm_history.specs.Effects.{Effects}
use Rattle.sm_history.specs.Queries.{names_by_mask}
use Rattle.sm_names.specs.Rows.{matching_names, TracksRows}
use Rattle.sm_names.proofs.Tracked.{matching_are}
use Rattle.sm_names.proofs.services.Services.by_mask.Goals as goal

pub returns : goal.returns
returns c =
    let rows = c.args.self.now.rows.items in
    IfOk-weaker c.by_mask.result (λ names. names ≡ matching_names c.args.mask rows)
    (λ names. (d : Effects) → TracksRows d rows → names ≡ names_by_mask d c.args.mask)
    (λ names is d tr. is ∙ matching_are d rows c.args.mask tr) c.by_mask.ensures
