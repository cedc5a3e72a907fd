use Rattle.std.proofs.Common.{◌≡◌, ◌∙◌, false, rules, sym}
use Rattle.std.specs.Arc.{arc_value}
use Rattle.std.proofs.lemmas.Result.{IfOk-weaker}
use Rattle.sm_history.specs.Effects.{Effects}
use Rattle.sm_history.specs.Following.{MayAllApart, followed}
use Rattle.sm_history.specs.Openings.{is_same}
use Rattle.sm_history.specs.Sound.{Sound}
use Rattle.sm_history.specs.declared.by.By.{By}
use Rattle.sm_names.specs.Rows.{TracksRows}
use Rattle.sm_core.specs.Counting.{change_count}
use Rattle.sm_core.specs.Stands.{StandPrincipals}
use Rattle.sm_core.specs.Viewing.{counted_by}
use Rattle.sm_core.proofs.TurnCountRows.{counted_others}
use Rattle.sm_core.proofs.Viewing.{principals_stay, services_stay}
use Rattle.sm_core.proofs.view_tables.next_tables.Goals as goal

pub returns-then-is_unmoved-clause-principals : goal.returns-then-is_unmoved-clause-principals
returns-then-is_unmoved-clause-principals c =
    let last = arc_value c.args.last.now in
    let xs = c.args.effects.now in
    IfOk-weaker c.try_clone.result (λ t. arc_value t ≡ last)
    (λ t. (d : Effects) → Sound d → StandPrincipals d (arc_value last.principals) → MayAllApart d xs
    → StandPrincipals (followed d xs) (arc_value (arc_value t).principals))
    (λ t is d sound s m. rw is (principals_stay xs d (arc_value last.principals) (search rules) s))
    c.try_clone.ensures

pub returns-then-is_unmoved-clause-services : goal.returns-then-is_unmoved-clause-services
returns-then-is_unmoved-clause-services c =
    let last = arc_value c.args.last.now in
    let xs = c.args.effects.now in
    let rows = (arc_value last.services).rows.items in
    IfOk-weaker c.try_clone.result (λ t. arc_value t ≡ last)
    (λ t. (d : Effects) → Sound d → TracksRows d rows → MayAllApart d xs
    → TracksRows (followed d xs) (arc_value (arc_value t).services).rows.items)
    (λ t is d sound tr m. rw is (services_stay xs d rows (search rules) sound m tr)) c.try_clone.ensures

pub returns-then-is_unmoved-clause-counts : goal.returns-then-is_unmoved-clause-counts
returns-then-is_unmoved-clause-counts c =
    let last = arc_value c.args.last.now in
    IfOk-weaker c.try_clone.result (λ t. arc_value t ≡ last)
    (λ t. (b : By) → is_same b c.args.by ≡ false
    → counted_by (arc_value t).turn_counts b ≡ change_count c.args.turns.now b)
    (λ t is b other. rw is (sym (counted_others last.turn_counts c.args.newest c.args.by b (search rules) other)
    ∙ c.requires.counts b)) c.try_clone.ensures
