use Rattle.std.proofs.Common.{◌-◌, ◌≤◌, length}
use Rattle.sm_wire.specs.Fields.{HasNoSpace}
use Rattle.sm_wire.proofs.fields.space_in.Given as goal

abbrev pub invariant-loop-i : goal.invariant-loop-i
invariant-loop-i l = record { within : l.i ≤ length l.bytes; plain : HasNoSpace l.i l.bytes }

abbrev pub decreases-loop-i : goal.decreases-loop-i
decreases-loop-i l = length l.bytes - l.i

abbrev pub invariant-loop-i-2 : goal.invariant-loop-i-2
invariant-loop-i-2 l = record { within : l.i ≤ length l.bytes; plain : HasNoSpace l.i l.bytes }

abbrev pub decreases-loop-i-2 : goal.decreases-loop-i-2
decreases-loop-i-2 l = length l.bytes - l.i
