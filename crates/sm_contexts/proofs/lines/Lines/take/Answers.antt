use Rattle.std.proofs.Common.{◌≡◌, ◌<◌, length, ◌∙◌, sym, arith}
use Rattle.sm_contexts.proofs.Cuts.{first_line, no_line}
use Rattle.sm_contexts.proofs.lines.Lines.take.Goals as goal

pub returns-then-is_empty-clause-none : goal.returns-then-is_empty-clause-none
returns-then-is_empty-clause-none c =
    let none : length c.self.inside.rest.now ≡ 0 = grind arith in
    sym c.self.view_is ∙ no_line c.self.inside.rest.now none

pub returns-clause-taken : goal.returns-clause-taken
returns-clause-taken c =
    let some : 0 < length c.self.inside.rest.now = grind arith in
    rw (← c.self.view_is, c.behind_newline-self-inside.ensures, c.split_at.ensures.front, c.line_len-len.ensures.value)
    (first_line c.self.inside.rest.now some)
