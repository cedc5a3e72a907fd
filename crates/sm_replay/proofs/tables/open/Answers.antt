use Rattle.std.proofs.Common.{◌≡◌, ◌∷◌, refl}
use Rattle.sm_history.specs.declared.effect.Effect.TheVariants.{Opens}
use Rattle.sm_history.specs.Clients.{manager_at}
use Rattle.sm_replay.proofs.AfterClientRows.{rows_stay}
use Rattle.sm_replay.proofs.tables.open.Goals as goal

pub returns : goal.returns
returns c d tr lt =
    let e = Opens c.args.who ∷ d in
    let live = rows_stay d e _ refl (λ k. record { who = refl; held = λ j. refl; waiting = refl }) tr.live in
    let manager : manager_at e ≡ manager_at e = refl in c.set.ensures e (assumption) lt
