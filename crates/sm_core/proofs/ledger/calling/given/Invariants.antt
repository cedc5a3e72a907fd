use Rattle.std.proofs.Common.{◌≡◌, ◌≤◌, ◌++◌, drop, length}
use Rattle.sm_grants.specs.Handing.{given_as}
use Rattle.sm_core.proofs.ledger.calling.given.Given as goal

abbrev pub invariant-loop-node : goal.invariant-loop-node
invariant-loop-node l = record {
  handed : l.list.items ++ given_as l.receiver (drop l.node-index l.named) (drop l.next l.numbers)
      ≡ given_as l.receiver l.named l.numbers;
  near : l.next ≤ length l.numbers;
}
