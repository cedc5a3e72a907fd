use Rattle.std.proofs.Common.{◌≤◌, ◌∙◌, ◌++◌, length, ap, arith}
use Rattle.sm_types.specs.Names.{at}
use Rattle.sm_types.specs.Denoting.{types}
use Rattle.sm_questions.specs.Accesses.{pair_lines, target_lines, targets_lines}
use Rattle.sm_questions.proofs.Buffering.{held_list}
use Rattle.sm_questions.proofs.Numbers.{numbered, numbered_lines}
use Rattle.sm_questions.proofs.listing.push_several.Goals as goal

pub returns : goal.returns
unfolding target_lines targets_lines
returns c =
    let names = types c.args.policy.now.statements in
    let f = pair_lines c.args.policy.now c.args.filter.now.perms.0 (at names c.args.source) in
    let numbers = c.args.table.now.targets.now in
    let le : length numbers ≤ c.loop-target.target-index = omega
    (arith, rw c.targets-target-items.ensures at c.loop-target-test.false) in
    held_list (numbered names f) numbers c.loop-target.target-index c.args.held.now.items le c.loop-target.invariant
    ∙ ap (λ l. c.args.held.now.items ++ l) (numbered_lines names c.args.filter.now.target f numbers c.requires.targets)
