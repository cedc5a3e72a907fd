use Rattle.std.proofs.Common.{◌≡◌, ◌<◌, ◌+◌, ◌∙◌, Bool, ap, sym, arith, if◌then◌else◌}
use Rattle.std.specs.Arc.{arc_value}
use Rattle.sm_history.specs.Books.{Book}
use Rattle.sm_history.specs.declared.limits.TheConstants.{GREATEST}
use Rattle.sm_history.specs.declared.turn.TurnRow.{TurnRow}
use Rattle.sm_history.proofs.BookOrder.{same_actor}
use Rattle.sm_core.specs.Counting.{change_count}
use Rattle.sm_core.proofs.TurnCountRows.{counted_first}
use Rattle.sm_core.proofs.Viewing.{changes_with, viewed_length, viewed_more, viewed_turns}
use Rattle.sm_core.proofs.view.View.after.Goals as goal

pub overflow_add-result : goal.overflow_add-result
overflow_add-result c = let v = viewed_length _ _ _ _ _ c.self.invariant in omega (arith, v)

pub overflow_add-result-2 : goal.overflow_add-result-2
overflow_add-result-2 c =
    let by = c.args.entry.now.by in
    let few : change_count c.args.turns.now by < GREATEST =
    rw (c.requires.turns by, ← c.self.view_is) (viewed_turns _ _ _ _ _ by c.self.invariant) in
    let is = c.of.ensures in
    omega (arith, few, is)

pub invariant_of-result : goal.invariant_of-result
invariant_of-result c =
    let i = c.self.inside in
    let h = c.args.self.now.history in
    let by = c.args.entry.now.by in
    let turns = c.args.turns.now in
    let changes = change_count turns in
    let places : i.places ≡ c.args.self.now.places = ap (λ (b : Book). b.places) c.self.view_is in
    let next = c.in_ok-next_tables.ensures in
    let tables = arc_value c.in_ok-next_tables.field-0 in
    let row : TurnRow = record { by = by; turns = c.of.result + 1 } in
    let before = rw (ap (λ (b : Book). b.history) c.self.view_is) at c.self.invariant in
    rw (c.of-2.ensures, c.requires.history, c.of-3.ensures)
    (viewed_more i.places h turns c.args.entry.now c.args.effects.now i.length (arc_value i.tables) tables i.newest row c.requires.turns
    (rw (← places) at c.requires.coming) before next.principals next.services
    (λ b. counted_first tables.turn_counts row b (changes_with turns by)
    (λ other. next.counts b other
    ∙ ap (λ (t : Bool). if t then changes b + 1 else changes b) (sym other))
    (ap (λ n. n + 1) c.of.ensures ∙ ap (λ (t : Bool). if t then changes by + 1 else changes by) (sym (same_actor by)))))
