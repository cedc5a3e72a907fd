use Rattle.std.proofs.Common.{◌≡◌, ◌<◌, length, ◌∙◌, sym, arith}
use Rattle.sm_ruletext.proofs.Cuts.{takes, nothing_left, length-tokens}
use Rattle.sm_ruletext.proofs.tokens.Tokens.take.Goals as goal

pub returns-then-is_empty-clause-none : goal.returns-then-is_empty-clause-none
returns-then-is_empty-clause-none c =
    let none : length c.skip_blanks-line.result.1.now ≡ 0 = grind arith in
    sym c.self.view_is ∙ (sym c.skip_blanks-line.ensures.same
    ∙ nothing_left c.skip_blanks-line.result.0 c.skip_blanks-line.result.1.now none)

pub returns-then-is_empty-clause-few : goal.returns-then-is_empty-clause-few
returns-then-is_empty-clause-few c =
    let few = length-tokens 0 c.self.inside.line c.self.inside.rest.now in
    rw (← c.self.view_is) (omega (arith, few, c.self.invariant))

pub returns-clause-taken : goal.returns-clause-taken
returns-clause-taken c =
    let some : 0 < length c.skip_blanks-line.result.1.now = grind arith in
    rw c.behind-self-inside.ensures (sym c.self.view_is ∙ (sym c.skip_blanks-line.ensures.same
    ∙ takes c.skip_blanks-line.result.0 c.first-kind.result.1 c.first-kind.result.0 c.skip_blanks-line.result.1.now
    c.skip_blanks-line.ensures.stops some c.first-kind.ensures.kind c.first-kind.ensures.len))

pub returns-clause-few : goal.returns-clause-few
returns-clause-few c =
    let few = length-tokens 0 c.self.inside.line c.self.inside.rest.now in
    rw (← c.self.view_is) (omega (arith, few, c.self.invariant))
