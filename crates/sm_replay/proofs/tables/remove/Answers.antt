use Rattle.std.proofs.Common.{◌∷◌, refl}
use Rattle.sm_history.specs.declared.effect.Effect.TheVariants.{Removes}
use Rattle.sm_replay.proofs.AfterClientRows.{rows_stay}
use Rattle.sm_replay.proofs.tables.remove.Goals as goal

pub returns : goal.returns
returns c d tr =
    let live = rows_stay d (Removes c.args.name.now ∷ d) _ refl
    (λ k. record { who = refl; held = λ j. refl; waiting = refl }) tr.live in
    let names = c.remove_name.ensures d tr.names in assumption
