use Rattle.std.proofs.Common.{◌≡◌, ◌++◌, take}
use Rattle.std.specs.List.{flat_map}
use Rattle.sm_types.specs.Denoting.{attributes, types}
use Rattle.sm_types.specs.Names.{at}
use Rattle.sm_listings.specs.Listed.{attribute_word}
use Rattle.sm_listings.proofs.lines.push_attributes.Given as goal

abbrev pub invariant-loop-a : goal.invariant-loop-a
invariant-loop-a l = l.lines.items ≡ l.initial.lines.items
    ++ flat_map (attribute_word l.fn.policy.statements (at (types l.fn.policy.statements) l.fn.t))
    (take l.a (attributes l.fn.policy.statements))
