use Rattle.std.proofs.Common.{◌<◌, length, ◌∙◌, arith}
use Rattle.std.proofs.lemmas.List.{length-drop}
use Rattle.sm_ruletext.proofs.Cuts.{turn_newline, turn_blank, turn_comment}
use Rattle.sm_ruletext.proofs.tokens.skip_blanks.Goals as goal

pub blanks-preserved-then-b-eq10 : goal.blanks-preserved-then-b-eq10
blanks-preserved-then-b-eq10 c =
    let some : 0 < length c.blanks.rest.now = grind arith in
    record {
      same = rw c.behind-after.ensures
          (turn_newline c.blanks.line c.blanks.rest.now some c.if-b-eq10.true ∙ c.blanks.invariant.same);
      small = rw (c.behind-after.ensures, length-drop) (omega arith);
    }

pub blanks-preserved-then-is_blank : goal.blanks-preserved-then-is_blank
blanks-preserved-then-is_blank c =
    let some : 0 < length c.blanks.rest.now = grind arith in
    let blank = c.if-is_blank.true in
    record {
      same = rw c.behind-after.ensures
          (turn_blank c.blanks.line c.blanks.rest.now some c.if-b-eq10.false (cc) ∙ c.blanks.invariant.same);
      small = rw (c.behind-after.ensures, length-drop) (omega arith);
    }

pub blanks-preserved : goal.blanks-preserved
blanks-preserved c =
    let some : 0 < length c.blanks.rest.now = grind arith in
    record {
      same = rw (c.behind-rest.ensures, c.line_len.ensures.value, c.behind-after.ensures)
          (turn_comment c.blanks.line c.blanks.rest.now some c.if-b-eq35.true ∙ c.blanks.invariant.same);
      small = rw (c.behind-rest.ensures, length-drop, c.behind-after.ensures, length-drop) (omega arith);
    }
