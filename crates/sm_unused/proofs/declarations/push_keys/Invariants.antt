use Rattle.std.proofs.Common.{◌≡◌, ◌++◌, take}
use Rattle.std.specs.List.{flat_map}
use Rattle.sm_unused.specs.Declarations.{key_line}
use Rattle.sm_unused.proofs.declarations.push_keys.Given as goal

abbrev pub invariant-loop-i : goal.invariant-loop-i
invariant-loop-i l = l.lines.items
    ≡ l.initial.lines.items ++ flat_map (key_line l.fn.path l.fn.policy) (take l.i l.fn.policy.entries)
