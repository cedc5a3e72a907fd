use Rattle.std.proofs.Common.{◌≡◌, take}
use Rattle.sm_names.specs.Orders.{rows_at}
use Rattle.sm_names.specs.Rows.{matching_names}
use Rattle.sm_names.proofs.ordered.matching.Given as goal

abbrev pub invariant-loop-i : goal.invariant-loop-i
invariant-loop-i l = l.names ≡ matching_names l.mask (take l.i-index (rows_at l.rows l.order))
