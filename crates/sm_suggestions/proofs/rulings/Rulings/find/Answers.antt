use Rattle.sm_suggestions.proofs.Remembering.{inserted, of_its_own}
use Rattle.sm_suggestions.proofs.rulings.Rulings.find.Goals as goal

pub returns-clause-right : goal.returns-clause-right
returns-clause-right c =
    let found = c.find-ruling.ensures in
    rw c.in_ok-insert.ensures.entries (inserted c.args.policy.now _ c.args.self.now.by_number.entries
    c.number_of.result c.find-ruling.result c.requires.right
    (of_its_own c.args.policy.now c.args.source c.args.target c.args.bit c.find-ruling.result found.source found.target
    found.bit found.right))
