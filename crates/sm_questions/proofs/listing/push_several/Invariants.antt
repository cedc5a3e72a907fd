use Rattle.std.proofs.Common.{◌≡◌, ◌++◌, take}
use Rattle.std.specs.List.{flat_map}
use Rattle.sm_types.specs.Names.{at}
use Rattle.sm_types.specs.Denoting.{types}
use Rattle.sm_questions.specs.Accesses.{pair_lines}
use Rattle.sm_questions.proofs.Numbers.{numbered}
use Rattle.sm_questions.proofs.listing.push_several.Given as goal

abbrev pub invariant-loop-target : goal.invariant-loop-target
invariant-loop-target l = l.held.items ≡ l.initial.held.items
    ++ flat_map (numbered (types l.policy.statements) (pair_lines l.policy l.filter.perms.0
    (at (types l.policy.statements) l.source))) (take l.target-index l.table.targets.now)
