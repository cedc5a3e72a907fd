use Rattle.sm_unused.proofs.Rows.{AreAll}
use Rattle.sm_unused.proofs.missing.all_pairs.Given as goal

abbrev pub invariant-loop : goal.invariant-loop
invariant-loop l = AreAll l.count l.counter l.all.items
