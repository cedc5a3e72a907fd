use Rattle.std.proofs.Common.{◌≡◌, take}
use Rattle.sm_replay.proofs.copying.deliveries_of.Given as goal

abbrev pub invariant-loop-delivery : goal.invariant-loop-delivery
invariant-loop-delivery l = l.copies.items ≡ take l.delivery-index l.fn.waiting
