use Rattle.std.proofs.Common.{◌≡◌, take}
use Rattle.sm_names.specs.Orders.{rows_at}
use Rattle.sm_names.proofs.ordered.copies_in_order.Given as goal

abbrev pub invariant-loop-i : goal.invariant-loop-i
invariant-loop-i l = l.copies.items ≡ take l.i-index (rows_at l.rows l.order)
