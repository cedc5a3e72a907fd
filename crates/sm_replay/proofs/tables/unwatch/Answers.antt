use Rattle.std.proofs.Common.{◌∷◌, refl, sym, ap, ◌∙◌}
use Rattle.std.specs.Prelude.{filter, not}
use Rattle.sm_history.specs.Services.{same_watch}
use Rattle.sm_history.specs.Histories.{watch as make_watch}
use Rattle.sm_history.proofs.AfterWatches.{watches_unwatches}
use Rattle.sm_history.specs.declared.effect.Effect.TheVariants.{Unwatches}
use Rattle.sm_replay.proofs.AfterClientRows.{rows_stay}
use Rattle.sm_replay.proofs.tables.unwatch.Goals as goal

pub returns : goal.returns
returns c d tr =
    let w = make_watch c.args.client c.args.name.now c.args.object in
    let live = rows_stay d (Unwatches w ∷ d) _ refl
    (λ k. record { who = refl; held = λ j. refl; waiting = refl }) tr.live in
    let watches = c.end_watches.ensures ∙ ap (filter (λ v. not (same_watch w v))) tr.watches
    ∙ sym (watches_unwatches d w) in assumption
