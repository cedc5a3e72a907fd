use Rattle.std.proofs.Common.{◌-◌, ◌≤◌, length}
use Rattle.sm_wire_tests.proofs.tests.lines.taken.Given as goal

abbrev pub invariant-loop-start : goal.invariant-loop-start
invariant-loop-start l = l.start ≤ length l.piece

abbrev pub decreases-loop-start : goal.decreases-loop-start
decreases-loop-start l = length l.piece - l.start
