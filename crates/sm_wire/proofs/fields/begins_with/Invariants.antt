use Rattle.std.proofs.Common.{◌≡◌, take}
use Rattle.sm_wire.proofs.fields.begins_with.Given as goal

abbrev pub invariant-loop-i : goal.invariant-loop-i
invariant-loop-i l = take l.i l.bytes ≡ take l.i l.word
