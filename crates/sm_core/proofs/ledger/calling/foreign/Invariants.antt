use Rattle.std.proofs.Common.{◌≡◌, ◌≤◌, ◌++◌, drop, take}
use Rattle.sm_grants.specs.Handing.{others}
use Rattle.sm_core.proofs.ledger.calling.foreign.Given as goal

abbrev pub invariant-loop-node : goal.invariant-loop-node
invariant-loop-node l = record {
  found : take l.count l.nodes ++ others l.receiver (drop l.node-index l.named) ≡ others l.receiver l.named;
  near : l.count ≤ l.node-index;
}
