use Rattle.std.proofs.Common.{◌≡◌, ◌++◌, map, take}
use Rattle.sm_core.specs.declared.client.LiveClient.{LiveClient}
use Rattle.sm_history.specs.Segments.{client}
use Rattle.sm_core.specs.Counting.{row_for}
use Rattle.sm_core.proofs.turns.Turns.add_clients.Given as goal

abbrev pub invariant-loop-row : goal.invariant-loop-row
invariant-loop-row l = l.rows.items ≡ l.fn.rows.items
    ++ map (row_for l.fn.self) (map client (map (λ (r : LiveClient). r.id) (take l.row-index l.fn.live)))
