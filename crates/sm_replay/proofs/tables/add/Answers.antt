use Rattle.std.proofs.Common.{◌∷◌, refl}
use Rattle.sm_history.specs.declared.effect.Effect.TheVariants.{Adds}
use Rattle.sm_replay.proofs.AfterClientRows.{rows_stay}
use Rattle.sm_replay.proofs.tables.add.Goals as goal

pub returns : goal.returns
returns c d tr may =
    let live = rows_stay d (Adds c.args.name c.args.service ∷ d) _ refl
    (λ k. record { who = refl; held = λ j. refl; waiting = refl }) tr.live in
    let names = c.in_ok-put_name.ensures d tr.names may in assumption
