use Rattle.std.proofs.Common.{◌≡◌, take}
use Rattle.sm_replay.proofs.copying.slots_of.Given as goal

abbrev pub invariant-loop-slot : goal.invariant-loop-slot
invariant-loop-slot l = l.copies.items ≡ take l.slot-index l.fn.slots
