use Rattle.sm_connection.specs.Connections.{StillHolds}
use Rattle.sm_connection.proofs.client.Client.die_after_tries.Given as goal

-- Each try so far was refused because an allocation failed.
abbrev pub invariant-loop : goal.invariant-loop
invariant-loop g l = StillHolds l.fn.held l.held
