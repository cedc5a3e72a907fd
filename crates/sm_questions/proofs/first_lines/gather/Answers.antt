use Rattle.sm_questions.proofs.FirstLines.{near_with, near_without}
use Rattle.sm_questions.proofs.first_lines.gather.Goals as goal
use Rattle.sm_questions.proofs.first_lines.gather.Goals.{then-is_near+in_ok-push, else-is_near}

pub loop-i-preserved : goal.loop-i-preserved
loop-i-preserved c =
    let rules = c.args.rules.now in
    let from = c.args.from in
    let to = c.args.to in
    elim c.if-is_near.branch [
      | then-is_near+in_ok-push w ↦ rw (w.near-is, w.in_ok-push.ensures.items) (near_with rules c.loop-i.i from to
          c.loop-i.near.items c.index-rules-i.result c.loop-i-test.true c.index-rules-i.is c.loop-i.invariant)
      | else-is_near w ↦ rw w.near-is (near_without rules c.loop-i.i from to c.loop-i.near.items c.index-rules-i.result
          c.loop-i-test.true c.index-rules-i.is (c.is_near.ensures w.if-is_near.false) c.loop-i.invariant)
    ]
