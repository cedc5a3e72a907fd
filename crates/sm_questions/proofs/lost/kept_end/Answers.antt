use Rattle.sm_questions.proofs.Granted.{nothing_lost, same_types, same_within, source_found}
use Rattle.sm_questions.proofs.lost.kept_end.Goals as goal

pub grants_alike-requires-clause-sources : goal.grants_alike-requires-clause-sources
grants_alike-requires-clause-sources c =
    let found = source_found c.args.one.now c.args.other.now c.args.numbers.now c.requires.numbers c.args.source
    c.requires.source (rw c.from.ensures at c.index.ensures) c.in-Some.is in
    (c.requires.source, found.0)

pub grants_alike-requires-clause-end : goal.grants_alike-requires-clause-end
grants_alike-requires-clause-end c =
    (c.requires.numbers.within, same_within c.args.one.now c.args.other.now c.args.numbers.now c.requires.numbers)

pub returns-in-Some-clause-nothing : goal.returns-in-Some-clause-nothing
returns-in-Some-clause-nothing c sign =
    let found = source_found c.args.one.now c.args.other.now c.args.numbers.now c.requires.numbers c.args.source
    c.requires.source (rw c.from.ensures at c.index.ensures) c.in-Some.is in
    nothing_lost sign c.args.one.now c.args.other.now c.args.source c.in-Some.theirs c.args.numbers.now.same found.1
    c.requires.numbers.within
    (λ t lt. (same_types c.args.one.now c.args.other.now c.args.numbers.now c.requires.numbers t lt).1)
    (c.grants_alike.ensures.alike c.if-grants_alike.true)
