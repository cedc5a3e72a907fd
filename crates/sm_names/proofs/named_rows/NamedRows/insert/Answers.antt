use Rattle.std.proofs.Common.{◌∙◌, length, arith}
use Rattle.std.proofs.lemmas.List.{length-map, length_push}
use Rattle.sm_names.specs.Orders.{row_at}
use Rattle.sm_names.proofs.OrderLemmas.{inserted, order_inserted}
use Rattle.sm_names.proofs.named_rows.NamedRows.insert.Goals as goal

pub invariant_of-self : goal.invariant_of-self
invariant_of-self c =
    let rows = c.self.inside.rows.items in
    let order = c.self.inside.order.items in
    let within = rw (← c.self.view_is) at c.requires.within in
    let long = length-map order (row_at rows) in
    let is = c.len-i.ensures ∙ c.self.inside.rows.ok.0 in
    rw (c.push_reserved.ensures.items, c.in-Ok.ensures.items, is, length_push rows c.args.row)
    (order_inserted (length rows) order c.args.position c.self.invariant (omega (arith, within, long)))

pub returns-clause-items : goal.returns-clause-items
returns-clause-items c =
    let rows = c.self.inside.rows.items in
    let order = c.self.inside.order.items in
    let is = c.len-i.ensures ∙ c.self.inside.rows.ok.0 in
    rw (← c.self.view_is, c.push_reserved.ensures.items, c.in-Ok.ensures.items, is)
    (inserted rows order c.args.position c.args.row c.self.invariant)
