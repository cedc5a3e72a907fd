use Rattle.std.proofs.Common.{◌≡◌, ◌++◌, drop}
use Rattle.sm_core.specs.Calling.{gives_of}
use Rattle.sm_core.proofs.ledger.calling.give.Given as goal

abbrev pub invariant-loop-i : goal.invariant-loop-i
invariant-loop-i l = l.effects.items ++ gives_of l.receiver (drop l.i l.nodes) (drop l.i l.numbers)
    ≡ l.initial.effects.items ++ gives_of l.receiver l.nodes l.numbers
