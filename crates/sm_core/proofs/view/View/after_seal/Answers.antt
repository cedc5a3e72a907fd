use Rattle.std.proofs.Common.{◌∙◌, ap, sym}
use Rattle.std.specs.Arc.{arc_value}
use Rattle.sm_history.specs.Books.{Book}
use Rattle.sm_history.specs.Histories.{turn_of}
use Rattle.sm_history.specs.Segments.{sealed}
use Rattle.sm_core.specs.declared.view_tables.ViewTables.{ViewTables}
use Rattle.sm_core.specs.Counting.{change_count}
use Rattle.sm_core.proofs.TurnCountRows.{counted_first}
use Rattle.sm_core.proofs.Viewing.{viewed_sealed}
use Rattle.sm_core.proofs.view.View.after_seal.Goals as goal

pub invariant_of-result : goal.invariant_of-result
invariant_of-result c =
    let i = c.self.inside in
    let now = c.args.self.now.history in
    let tables : ViewTables = record {
      principals = c.in_ok-try_clone.field-0;
      services = c.in_ok-try_clone-2.field-0;
      turn_counts = c.in_ok-of.field-0;
    } in
    let row = c.row.result in
    let before = rw (ap (λ (b : Book). b.history) c.self.view_is) at c.self.invariant in
    rw (c.of-2.ensures, c.requires.history, c.in_ok-new.ensures.ok)
    (viewed_sealed i.places now i.length (arc_value i.tables) tables i.newest row before
    (c.in_ok-try_clone.ensures ∙ ap (λ (t : ViewTables). arc_value t.principals) c.deref.ensures)
    (c.in_ok-try_clone-2.ensures ∙ ap (λ (t : ViewTables). arc_value t.services) c.deref-2.ensures)
    (λ b. counted_first tables.turn_counts row b (turn_of (sealed now))
    (λ other. c.in_ok-of.ensures b ∙ c.requires.turns b)
    (c.row.ensures.turns ∙ ap (change_count c.args.turns.now) (sym c.row.ensures.by) ∙ c.requires.turns row.by)))
