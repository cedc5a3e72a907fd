use Rattle.std.proofs.Common.{◌≡◌, ◌++◌}
use Rattle.sm_audit.proofs.ring.Ring.all.Given as goal

abbrev pub invariant-loop-denied : goal.invariant-loop-denied
invariant-loop-denied l = l.all.items ++ l.denied-iterator ≡ l.self
