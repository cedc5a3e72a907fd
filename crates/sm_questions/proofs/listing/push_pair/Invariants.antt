use Rattle.std.proofs.Common.{◌≡◌, ◌++◌, take}
use Rattle.std.specs.List.{flat_map}
use Rattle.sm_types.specs.Names.{at}
use Rattle.sm_types.specs.Denoting.{types}
use Rattle.sm_questions.specs.Accesses.{perm_lines, perm_numbers}
use Rattle.sm_questions.proofs.listing.push_pair.Given as goal

abbrev pub invariant-loop-bit : goal.invariant-loop-bit
invariant-loop-bit l = l.held.items ≡ l.initial.held.items
    ++ flat_map (perm_lines l.policy l.wanted.0 (at (types l.policy.statements) l.source)
    (at (types l.policy.statements) l.target)) (take l.bit perm_numbers)
