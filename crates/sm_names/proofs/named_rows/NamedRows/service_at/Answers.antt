use Rattle.std.proofs.Common.{ap, arith}
use Rattle.std.proofs.lemmas.List.{get_or_read}
use Rattle.sm_history.specs.declared.named_row.NamedRow.{NamedRow}
use Rattle.sm_names.specs.Orders.{no_row}
use Rattle.sm_names.proofs.OrderLemmas.{at_of, read_at}
use Rattle.sm_names.proofs.named_rows.NamedRows.service_at.Goals as goal

pub index-requires-2 : goal.index-requires-2
index-requires-2 c =
    let at = read_at c.self.inside.rows.items c.self.inside.order.items c.args.position c.index.result.now
    c.self.invariant (rw (← c.self.view_is) at c.requires) c.index.ensures in
    let ok = c.self.inside.rows.ok.0 in
    omega (arith, at.2, ok)

pub returns : goal.returns
returns c =
    let rows = c.self.inside.rows.items in
    let order = c.self.inside.order.items in
    let i = c.index.result.now in
    let at = read_at rows order c.args.position i c.self.invariant (rw (← c.self.view_is) at c.requires)
    c.index.ensures in
    let row = get_or_read rows i c.index-2.result.now at.2 c.index-2.ensures no_row in
    rw (← c.self.view_is, at_of rows order c.args.position no_row at.0, at.1)
    (ap (λ (r : NamedRow). r.service) row)
