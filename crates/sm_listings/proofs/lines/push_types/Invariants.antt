use Rattle.std.proofs.Common.{◌≡◌, ◌++◌, take}
use Rattle.std.specs.List.{flat_map}
use Rattle.sm_types.specs.Denoting.{attributes, types}
use Rattle.sm_types.specs.Names.{at}
use Rattle.sm_listings.specs.Listed.{type_word}
use Rattle.sm_listings.proofs.lines.push_types.Given as goal

abbrev pub invariant-loop-t : goal.invariant-loop-t
invariant-loop-t l = l.lines.items ≡ l.initial.lines.items
    ++ flat_map (type_word l.fn.policy.statements (at (attributes l.fn.policy.statements) l.fn.a))
    (take l.t (types l.fn.policy.statements))
