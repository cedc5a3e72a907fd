use Rattle.std.proofs.Common.{◌≡◌, ◌++◌, map, take}
use Rattle.sm_history.specs.Segments.{client}
use Rattle.sm_replay.specs.Turning.{made}
use Rattle.sm_replay.proofs.turning.Turning.push_clients.Given as goal

abbrev pub invariant-loop-row : goal.invariant-loop-row
invariant-loop-row l = l.rows.items ≡ l.fn.rows.items
    ++ map (λ r. record { by = client r.client; turns = made l.fn.self (client r.client) }) (take l.row-index l.fn.live)
