use Rattle.std.proofs.Common.{rules}
use Rattle.std.proofs.lemmas.List.{get_or_read}
use Rattle.sm_names.specs.Orders.{no_row}
use Rattle.sm_names.proofs.OrderLemmas.{guessed}
use Rattle.sm_names.proofs.named_rows.NamedRows.guess.Goals as goal

pub returns-then-has_name : goal.returns-then-has_name
returns-then-has_name c rises =
    let rows = c.self.inside.rows.items in
    let is = (rw c.deref.ensures.value at c.has_name.ensures) (search rules) in
    let row = get_or_read rows c.args.i c.index.result.now is.0 c.index.ensures no_row in
    rw (← c.self.view_is, row)
    (guessed rows c.self.inside.order.items c.args.i c.args.name.now c.self.invariant is.0 is.1
    (rw (← c.self.view_is) at rises))
