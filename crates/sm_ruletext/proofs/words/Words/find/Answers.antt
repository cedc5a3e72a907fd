use Rattle.std.proofs.Common.{◌∙◌, sym}
use Rattle.sm_ruletext.proofs.Keyed.{found}
use Rattle.sm_ruletext.proofs.words.Words.find.Goals as goal

pub returns-in-Some : goal.returns-in-Some
returns-in-Some c =
    let is = found c.args.bytes.now c.in-Some.known.now c.self.inside.names.entries c.self.invariant
    (sym c.in-Some.ensures.value) in
    c.in_ok-copy.ensures.cases ∙ is
