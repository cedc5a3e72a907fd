use Rattle.std.proofs.Common.{◌-◌, ◌≤◌}
use Rattle.sm_ruletext.proofs.words.digest.Given as goal

abbrev pub invariant-loop-i : goal.invariant-loop-i
invariant-loop-i l = l.i ≤ l.n

abbrev pub decreases-loop-i : goal.decreases-loop-i
decreases-loop-i l = l.n - l.i
