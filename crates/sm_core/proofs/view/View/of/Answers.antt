use Rattle.std.proofs.Common.{◌≡◌, ◌∙◌, ap, sym}
use Rattle.std.specs.Arc.{arc_value}
use Rattle.sm_names.specs.declared.services.Services.{Services}
use Rattle.sm_core.specs.declared.view_tables.ViewTables.{ViewTables}
use Rattle.sm_core.specs.Counting.{change_count}
use Rattle.sm_core.proofs.TurnCountRows.{counted_first}
use Rattle.sm_core.proofs.Viewing.{viewed_now}
use Rattle.sm_core.proofs.Small.{small_length}
use Rattle.sm_core.proofs.view.View.of.Goals as goal

pub history_length-requires : goal.history_length-requires
history_length-requires c = small_length _ _ _ _ c.requires

pub invariant_of-result : goal.invariant_of-result
invariant_of-result c =
    let now = c.args.journal.now in
    let turns = c.args.turns.now in
    let tables : ViewTables = record {
      principals = c.in_ok-new.field-0;
      services = c.in_ok-new-2.field-0;
      turn_counts = c.in_ok-of.field-0;
    } in
    let rows : (arc_value tables.services).rows.items ≡ c.services.result.now.rows.items =
    ap (λ (t : Services). t.rows.items) c.in_ok-new-2.ensures.ok ∙ c.in_ok-copy-2.ensures.0 in
    let row = c.row.result in
    rw (c.of-2.ensures, c.in_ok-new-3.ensures.ok)
    (viewed_now c.args.places now.history turns c.args.state.now c.history_length.result tables row c.requires
    c.history_length.ensures (λ d s. rw c.in_ok-new.ensures.ok (c.in_ok-copy.ensures.stand d s))
    (λ d s. rw rows (c.services.ensures d s))
    (λ b. counted_first tables.turn_counts row b (change_count turns) (λ other. c.in_ok-of.ensures b)
    (c.row.ensures.turns ∙ ap (change_count turns) (sym c.row.ensures.by))))
