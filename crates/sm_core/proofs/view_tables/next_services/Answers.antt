use Rattle.std.proofs.Common.{◌≡◌, rules}
use Rattle.std.specs.Arc.{arc_value}
use Rattle.std.proofs.lemmas.Result.{IfOk-weaker}
use Rattle.sm_history.specs.Effects.{Effects}
use Rattle.sm_history.specs.Following.{MayAllApart, followed}
use Rattle.sm_history.specs.Sound.{Sound}
use Rattle.sm_names.specs.Rows.{TracksRows}
use Rattle.sm_core.proofs.Viewing.{services_stay}
use Rattle.sm_core.proofs.view_tables.next_services.Goals as goal

pub returns-then-not-moves_any_services : goal.returns-then-not-moves_any_services
returns-then-not-moves_any_services c =
    let last = arc_value c.args.last.now in
    let xs = c.args.effects.now in
    IfOk-weaker c.try_clone.result (λ s. arc_value s ≡ last)
    (λ s. (d : Effects) → Sound d → TracksRows d last.rows.items → MayAllApart d xs
    → TracksRows (followed d xs) (arc_value s).rows.items)
    (λ s is d sound tr m. rw is (services_stay xs d last.rows.items (search rules) sound m tr)) c.try_clone.ensures
