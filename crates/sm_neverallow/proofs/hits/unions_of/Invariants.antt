use Rattle.sm_neverallow.proofs.Ready.{Ready}
use Rattle.sm_neverallow.proofs.hits.unions_of.Given as goal

abbrev pub invariant-loop-j : goal.invariant-loop-j
invariant-loop-j l = Ready l.matrix l.count l.first l.j l.all.items
