use Rattle.std.proofs.Common.{[], ◌∷◌, ◌++◌, ◌∙◌}
use Rattle.sm_door.proofs.Counting.{no_seats, more_seats, no_admins, more_admins}
use Rattle.sm_door.proofs.opening.tokens_of.Goals as goal

pub loop-seat-init : goal.loop-seat-init
loop-seat-init g c = c.new-seats.ensures.items ∙ no_seats g.J.Naming.opening

pub loop-seat-preserved : goal.loop-seat-preserved
loop-seat-preserved g c =
    let kept = c.in_ok-keep.ensures.kept in
    let seen = c.in_ok-seat.ensures.seen in
    kept ∙ ((λ i. c.loop-seat.invariant i ++ seen i ∷ []) ∙ more_seats g.J.Naming.opening c.loop-seat._seat)

pub loop-number-init : goal.loop-number-init
loop-number-init g c = c.new-admins.ensures.items ∙ no_admins g.J.Naming.opening

pub loop-number-preserved : goal.loop-number-preserved
loop-number-preserved g c =
    let kept = c.in_ok-keep-2.ensures.kept in
    let seen = c.in_ok-admin.ensures.seen in
    kept ∙ ((λ i. c.loop-number.invariant i ++ seen i ∷ []) ∙ more_admins g.J.Naming.opening c.loop-number.number)
