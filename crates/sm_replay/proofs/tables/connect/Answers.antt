use Rattle.std.proofs.Common.{◌∷◌, sym, ◌∙◌}
use Rattle.sm_history.proofs.AfterNames.{service_connects}
use Rattle.sm_history.proofs.AfterWatches.{watches_connects}
use Rattle.sm_history.proofs.Sound.{is_new}
use Rattle.sm_history.specs.declared.effect.Effect.TheVariants.{Connects}
use Rattle.sm_history.proofs.AfterNamedRows.{names_stay}
use Rattle.sm_replay.proofs.tables.connect.Goals as goal

pub returns : goal.returns
returns c d s tr may =
    let clients = c.from-connected.ensures ∙ may in
    let live = c.in_ok-add_client.ensures d s tr.live may in
    let names = names_stay d (Connects c.args.client c.args.who ∷ d) _
    (λ q. service_connects d c.args.client c.args.who q may s.owned) tr.names in
    let watches = tr.watches ∙ sym (watches_connects d c.args.client c.args.who (is_new d c.args.client may s.fresh)) in
    assumption
