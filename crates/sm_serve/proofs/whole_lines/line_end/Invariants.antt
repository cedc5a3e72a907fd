use Rattle.std.proofs.Common.{◌-◌, ◌≤◌, length}
use Rattle.sm_serve.proofs.whole_lines.line_end.Given as goal

abbrev pub invariant-loop-end : goal.invariant-loop-end
invariant-loop-end l = record { low : l.written ≤ l.end; high : l.end ≤ length l.lines }

abbrev pub decreases-loop-end : goal.decreases-loop-end
decreases-loop-end l = length l.lines - l.end
