use Rattle.std.proofs.Common.{◌≡◌, take, arith}
use Rattle.std.proofs.lemmas.List.{take_all}
use Rattle.sm_types.specs.Names.{at}
use Rattle.sm_types.specs.Denoting.{types}
use Rattle.sm_questions.specs.RuleChanges.{lost_of_source}
use Rattle.sm_questions.proofs.Tallied.{adds_none, front_none, full_again, has_targets}
use Rattle.sm_questions.proofs.tallying.count_source.Goals as goal

pub returns-then-from-type_count-clause-counted : goal.returns-then-from-type_count-clause-counted
unfolding lost_of_source
returns-then-from-type_count-clause-counted c =
    let one = c.args.one.now in
    let other = c.args.other.now in
    let names = types one.statements in
    let whole : take c.kept_end-from.result names ≡ names =
    take_all c.kept_end-from.result names (omega (arith, c.if-from-type_count.true, c.type_count.ensures)) in
    let nothing = rw whole at (front_none 0 one other c.args.source c.kept_end-from.result
    (c.kept_end-from.ensures.nothing 0)) in
    rw nothing (adds_none one c.args.counts.now)

pub count_rest-requires-clause-table : goal.count_rest-requires-clause-table
count_rest-requires-clause-table c = has_targets c.args.one.now c.find.new.self c.args.source
    (full_again c.args.one.now c.args.table.now c.find.new.self c.requires.table c.find.ensures.rules
    c.find.ensures.targets c.in_ok-find.ensures.table) c.requires.source
    (rw (c.find.ensures.rules, c.find.ensures.targets) (rw c.from.ensures at c.in_ok-find.ensures.found))
