use Rattle.std.proofs.Common.{◌≡◌, ◌++◌, drop}
use Rattle.std.specs.List.{flat_map}
use Rattle.sm_wire.specs.Replies.{spaced_given}
use Rattle.sm_wire.proofs.deliveries.push_refs.Given as goal

abbrev pub invariant-loop-given : goal.invariant-loop-given
invariant-loop-given l = l.out.items ++ flat_map spaced_given (drop l.given-index l.refs) ≡ l.initial.out.items
    ++ flat_map spaced_given l.refs
