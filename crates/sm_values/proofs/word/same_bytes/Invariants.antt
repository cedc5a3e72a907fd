use Rattle.std.proofs.Common.{◌*◌}
use Rattle.sm_values.proofs.SameWords.{AreSameBelow}
use Rattle.sm_values.proofs.word.same_bytes.Given as goal

abbrev pub invariant-loop-k : goal.invariant-loop-k
invariant-loop-k l = AreSameBelow l.a l.b (8 * l.k)

abbrev pub invariant-loop-i : goal.invariant-loop-i
invariant-loop-i l = AreSameBelow l.a l.b l.i
