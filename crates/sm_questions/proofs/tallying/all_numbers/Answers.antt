use Rattle.sm_questions.proofs.Tallied.{none_below, one_above}
use Rattle.sm_questions.proofs.tallying.all_numbers.Goals as goal

pub loop-number-init : goal.loop-number-init
loop-number-init c = rw c.new-numbers.ensures.items none_below

pub loop-number-preserved : goal.loop-number-preserved
loop-number-preserved c = rw c.in_ok-push.ensures.items
    (one_above c.loop-number.number c.loop-number.numbers.items c.loop-number.invariant)
