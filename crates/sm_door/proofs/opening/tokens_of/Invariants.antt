use Rattle.std.proofs.Common.{◌≡◌}
use Rattle.sm_door.specs.Opening.{new_seats, new_admins}
use Rattle.sm_door.proofs.opening.tokens_of.Given as goal

abbrev pub invariant-loop-seat : goal.invariant-loop-seat
invariant-loop-seat g l = l.seats.items ≡ new_seats g.J.Naming.opening l._seat

abbrev pub invariant-loop-number : goal.invariant-loop-number
invariant-loop-number g l = l.admins.items ≡ new_admins g.J.Naming.opening l.number
