use Rattle.std.proofs.Common.{rules}
use Rattle.std.specs.Ordering.{nat_cmp}
use Rattle.std.specs.Cmp.Lexicographic.{slice_cmp}
use Rattle.std.proofs.lemmas.Fn.{always_returns_same}
use Rattle.std.proofs.lemmas.List.{length-map}
use Rattle.sm_history.specs.declared.named_row.NamedRow.{NamedRow}
use Rattle.sm_history.proofs.NamedRows.{searched}
use Rattle.sm_names.specs.Orders.{row_at, rows_at}
use Rattle.sm_names.proofs.OrderLemmas.{searched_at}
use Rattle.sm_names.proofs.ordered.position_of.Goals as goal

pub returns-clause-place : goal.returns-clause-place
returns-clause-place c rises =
    let rows = c.args.rows.now in
    let order = c.args.order.now in
    let ord = λ (r : NamedRow). slice_cmp nat_cmp r.name c.args.name.now in
    searched (rows_at rows order) c.args.name.now c.binary_search_by.result rises
    (rw (length-map order (row_at rows)) c.binary_search_by.ensures.bound)
    (searched_at ord rows order c.binary_search_by.result c.binary_search_by.ensures.bound
    (c.binary_search_by.ensures.position (λ i. ord (row_at rows i))
    (always_returns_same _ _ _ (λ a r f' h. search rules))))
