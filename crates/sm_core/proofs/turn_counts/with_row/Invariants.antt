use Rattle.std.proofs.Common.{◌≡◌, ◌≤◌, ◌+◌, ◌∷◌, take, length}
use Rattle.std.specs.Vec.{vec_capacity}
use Rattle.sm_core.specs.Viewing.{rows_of_others}
use Rattle.sm_core.proofs.turn_counts.with_row.Given as goal

abbrev pub invariant-loop-other : goal.invariant-loop-other
invariant-loop-other l = record {
  items : l.list.items ≡ l.row ∷ rows_of_others l.row.by (take l.other-index l.since);
  few : length l.list.items ≤ l.other-index + 1;
  room : length l.since + 1 ≤ vec_capacity l.list;
}
