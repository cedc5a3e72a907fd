use Rattle.std.proofs.Common.{◌∙◌, ap, arith, length}
use Rattle.std.proofs.lemmas.List.{get_or_read}
use Rattle.sm_history.specs.declared.named_row.NamedRow.{NamedRow}
use Rattle.sm_names.specs.Orders.{no_row, row_at}
use Rattle.sm_names.proofs.OrderLemmas.{at_of, read_at, once_below, set_one}
use Rattle.sm_names.proofs.named_rows.NamedRows.set.Goals as goal

pub index_mut-requires : goal.index_mut-requires
index_mut-requires c =
    let at = read_at c.self.inside.rows.items c.self.inside.order.items c.args.position c.index-i.result.now
    c.self.invariant (rw (← c.self.view_is) at c.requires) c.index-i.ensures in
    let ok = c.self.inside.rows.ok.0 in
    omega (arith, at.2, ok)

pub returns-clause-items : goal.returns-clause-items
returns-clause-items c =
    let rows = c.self.inside.rows.items in
    let order = c.self.inside.order.items in
    let i = c.index-i.result.now in
    let at = read_at rows order c.args.position i c.self.invariant (rw (← c.self.view_is) at c.requires)
    c.index-i.ensures in
    let row = get_or_read rows i c.index_mut.result.now at.2 c.index_mut.ensures.value no_row in
    let same = at_of rows order c.args.position no_row at.0 ∙ ap (row_at rows) at.1 in
    let r : NamedRow = record { name = (row_at rows i).name; service = c.args.service } in
    rw (← c.self.view_is, row, same)
    (set_one rows order c.args.position i r at.0 at.1 (once_below (length rows) order i c.self.invariant at.2) at.2)
