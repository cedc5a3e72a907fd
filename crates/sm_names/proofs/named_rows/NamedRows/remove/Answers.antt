use Rattle.std.proofs.Common.{◌∙◌, sym, length, arith}
use Rattle.std.specs.Prelude.{remove}
use Rattle.sm_names.specs.Orders.{renamed}
use Rattle.sm_names.proofs.OrderLemmas.{read_at, renamed_all, removed, order_removed, once_left}
use Rattle.sm_names.proofs.named_rows.NamedRows.remove.Goals as goal

pub swap_remove-requires : goal.swap_remove-requires
swap_remove-requires c =
    let at = read_at c.self.inside.rows.items c.self.inside.order.items c.args.position c.remove-i.result
    c.self.invariant (rw (← c.self.view_is) at c.requires) c.remove-i.ensures.value in
    let ok = c.self.inside.rows.ok.0 in
    omega (arith, at.2, ok)

pub invariant_of-self : goal.invariant_of-self
invariant_of-self c =
    let rows = c.self.inside.rows.items in
    let order = c.self.inside.order.items in
    let i = c.remove-i.result in
    let last = c.len.result in
    let at = read_at rows order c.args.position i c.self.invariant (rw (← c.self.view_is) at c.requires)
    c.remove-i.ensures.value in
    let new = renamed_all (renamed last i) (remove order c.args.position) c.remove-i.new.self.items c.rename_near.new.order
    c.remove-i.new.self.len c.remove-i.ensures.items (rw c.deref_mut.ensures.value at c.rename_near.ensures)
    c.remove-i.new.self.ok.0 in
    let ok = c.self.inside.rows.ok.0 in
    let fewer = c.swap_remove.ensures.len in
    let is = c.len.ensures in
    rw (new, sym (is ∙ c.swap_remove.new.self.ok.0))
    (order_removed (length rows) order c.args.position i last c.self.invariant at.0 at.1 (omega (arith, fewer, is, ok)))

pub returns-clause-items : goal.returns-clause-items
returns-clause-items c =
    let rows = c.self.inside.rows.items in
    let order = c.self.inside.order.items in
    let i = c.remove-i.result in
    let last = c.len.result in
    let at = read_at rows order c.args.position i c.self.invariant (rw (← c.self.view_is) at c.requires)
    c.remove-i.ensures.value in
    let new = renamed_all (renamed last i) (remove order c.args.position) c.remove-i.new.self.items c.rename_near.new.order
    c.remove-i.new.self.len c.remove-i.ensures.items (rw c.deref_mut.ensures.value at c.rename_near.ensures)
    c.remove-i.new.self.ok.0 in
    let ok = c.self.inside.rows.ok.0 in
    let fewer = c.swap_remove.ensures.len in
    let is = c.len.ensures in
    rw (← c.self.view_is, new, c.swap_remove.ensures.items)
    (removed rows order c.args.position i last c.swap_remove.result c.self.invariant at.0 at.1
    (omega (arith, fewer, is, ok)))

pub rename_near-requires : goal.rename_near-requires
rename_near-requires c =
    let rows = c.self.inside.rows.items in
    let order = c.self.inside.order.items in
    let at = read_at rows order c.args.position c.remove-i.result c.self.invariant (rw (← c.self.view_is) at c.requires)
    c.remove-i.ensures.value in
    rw (c.deref_mut.ensures.value, c.remove-i.ensures.items)
    (once_left (length rows) order c.args.position c.len.result c.self.invariant at.0)
