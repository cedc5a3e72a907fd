use Rattle.std.proofs.Common.{Some}
use Rattle.sm_suggestions.proofs.Remembering.{found_right, of_access}
use Rattle.sm_suggestions.proofs.rulings.Rulings.known.Goals as goal

pub returns-in-Some : goal.returns-in-Some
returns-in-Some c = λ policy are.
    (of_access policy c.args.source c.args.target c.args.bit c.in-Some.ruling.now c.is_of.result c.is_of.ensures
    c.if-is_of.true
    (found_right policy _ c.args.self.now.by_number.entries (Some c.in-Some.ruling.now) c.in-Some.ensures.value are))
