use Rattle.std.proofs.Common.{rules, ◌∙◌, ap}
use Rattle.std.proofs.lemmas.List.{get_or_read}
use Rattle.sm_history.specs.declared.named_row.NamedRow.{NamedRow}
use Rattle.sm_names.specs.Orders.{no_row}
use Rattle.sm_names.proofs.OrderLemmas.{put_guessed}
use Rattle.sm_names.proofs.named_rows.NamedRows.put_guess.Goals as goal

pub returns-then-has_name-clause-found : goal.returns-then-has_name-clause-found
returns-then-has_name-clause-found c t rises =
    let rows = c.self.inside.rows.items in
    let is = (rw c.deref.ensures.value at c.has_name.ensures) (search rules) in
    let row = get_or_read rows c.args.i c.index_mut.result.now is.0 c.index_mut.ensures.value no_row in
    rw (← c.self.view_is)
    (put_guessed rows c.self.inside.order.items c.args.i c.args.name.now c.index_mut.result.now.name c.args.service
    c.self.invariant is.0 is.1 (ap (λ (r : NamedRow). r.name) row ∙ is.1) (rw (← c.self.view_is) at rises))
