use Rattle.sm_questions.proofs.FirstLines.{asked_again, has_pairs}
use Rattle.sm_questions.proofs.listing.push_source.Goals as goal

pub push_targets-requires-clause-lines : goal.push_targets-requires-clause-lines
push_targets-requires-clause-lines c = has_pairs c.args.policy.now c.args.filter.now c.find.new.self c.args.source
    (asked_again c.args.policy.now c.args.filter.now c.args.table.now c.find.new.self c.requires.table
    c.find.ensures.rules c.find.ensures.targets c.in_ok-find.ensures.table) c.requires.source
    (rw (c.find.ensures.rules, c.find.ensures.targets) (rw c.from.ensures at c.in_ok-find.ensures.found))
