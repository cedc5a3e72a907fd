use Rattle.std.proofs.Common.{◌≡◌, rules}
use Rattle.std.specs.Arc.{arc_value}
use Rattle.std.proofs.lemmas.Result.{IfOk-weaker}
use Rattle.sm_history.specs.Effects.{Effects}
use Rattle.sm_history.specs.Following.{MayAllApart, followed}
use Rattle.sm_history.specs.Sound.{Sound}
use Rattle.sm_core.specs.Stands.{StandPrincipals}
use Rattle.sm_core.proofs.Viewing.{principals_stay}
use Rattle.sm_core.proofs.view_tables.next_principals.Goals as goal

pub returns-then-not-moves_any_principals : goal.returns-then-not-moves_any_principals
returns-then-not-moves_any_principals c =
    let last = arc_value c.args.last.now in
    let xs = c.args.effects.now in
    IfOk-weaker c.try_clone.result (λ p. arc_value p ≡ last)
    (λ p. (d : Effects) → Sound d → StandPrincipals d last → MayAllApart d xs
    → StandPrincipals (followed d xs) (arc_value p))
    (λ p is d sound s m. rw is (principals_stay xs d last (search rules) s)) c.try_clone.ensures
