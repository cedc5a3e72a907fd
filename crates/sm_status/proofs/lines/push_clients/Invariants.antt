use Rattle.std.proofs.Common.{◌≡◌, ◌++◌, take}
use Rattle.std.specs.List.{flat_map}
use Rattle.sm_status.specs.StateLines.{client_line}
use Rattle.sm_status.proofs.lines.push_clients.Given as goal

abbrev pub invariant-loop-client : goal.invariant-loop-client
invariant-loop-client l = l.out.items
    ≡ l.fn.out.items ++ flat_map (client_line l.fn.watches) (take l.client-index l.fn.clients)
