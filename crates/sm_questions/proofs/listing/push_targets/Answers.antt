use Rattle.std.proofs.Common.{◌≡◌, length, arith}
use Rattle.sm_types.specs.Names.{at}
use Rattle.sm_types.specs.Denoting.{types}
use Rattle.sm_questions.specs.Accesses.{pair_lines, target_lines, targets_lines}
use Rattle.sm_questions.proofs.Numbers.{one_number}
use Rattle.sm_questions.proofs.listing.push_targets.Goals as goal

pub returns : goal.returns
unfolding target_lines targets_lines
returns c =
    let names = types c.args.policy.now.statements in
    let f = pair_lines c.args.policy.now c.args.filter.now.perms.0 (at names c.args.source) in
    let numbers = c.args.table.now.targets.now in
    let one : length numbers ≡ 1 = omega (arith, rw c.targets-targets.ensures at c.if-targets-ne1.false) in
    rw (c.targets-targets.ensures, one_number names c.args.filter.now.target f numbers c.requires.targets one)
    at c.push_pair.ensures
