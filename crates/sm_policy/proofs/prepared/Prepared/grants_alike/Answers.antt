use Rattle.sm_policy.proofs.Granting.{tabled, granted_alike, granted_differ}
use Rattle.sm_policy.proofs.prepared.Prepared.grants_alike.Goals as goal

pub returns-clause-alike : goal.returns-clause-alike
returns-clause-alike c e t b ht lt =
    let one = tabled c.args.source c.args.end c.parts.ensures c.requires.sources.0 c.requires.end.0 in
    let other = tabled c.args.theirs c.args.end c.parts-2.ensures c.requires.sources.1 c.requires.end.1 in
    granted_alike c.args.self.now c.args.other.now c.args.source c.args.theirs c.args.end t b one other ht lt
    (c.grants_alike.ensures.alike e t b ht lt)

pub returns-clause-differ : goal.returns-clause-differ
returns-clause-differ c e =
    let one = tabled c.args.source c.args.end c.parts.ensures c.requires.sources.0 c.requires.end.0 in
    let other = tabled c.args.theirs c.args.end c.parts-2.ensures c.requires.sources.1 c.requires.end.1 in
    granted_differ c.args.self.now c.args.other.now c.args.source c.args.theirs c.args.end one other
    (c.grants_alike.ensures.differ e)
