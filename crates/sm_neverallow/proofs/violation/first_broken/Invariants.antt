use Rattle.sm_neverallow.proofs.Broken.{Sought}
use Rattle.sm_neverallow.proofs.violation.first_broken.Given as goal

abbrev pub invariant-loop-set : goal.invariant-loop-set
invariant-loop-set l = Sought l.matrices l.neverallows l.count l.set l.place
