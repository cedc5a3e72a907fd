use Rattle.std.proofs.Common.{◌≡◌, ◌++◌, map, take}
use Rattle.sm_history.specs.Segments.{admin}
use Rattle.sm_replay.specs.Turning.{made}
use Rattle.sm_replay.proofs.turning.Turning.push_admins.Given as goal

abbrev pub invariant-loop-number : goal.invariant-loop-number
invariant-loop-number l = l.rows.items ≡ l.fn.rows.items
    ++ map (λ a. record { by = admin a; turns = made l.fn.self (admin a) }) (take l.number-index l.fn.self.order.items)
