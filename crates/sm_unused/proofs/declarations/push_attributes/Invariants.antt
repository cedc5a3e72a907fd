use Rattle.std.proofs.Common.{◌≡◌, ◌++◌, take}
use Rattle.std.specs.List.{flat_map}
use Rattle.sm_unused.specs.Declarations.{attribute_line}
use Rattle.sm_unused.proofs.declarations.push_attributes.Given as goal

abbrev pub invariant-loop-statement : goal.invariant-loop-statement
invariant-loop-statement l = l.lines.items
    ≡ l.initial.lines.items ++ flat_map (attribute_line l.fn.path l.fn.policy) (take l.statement-index l.statements)
