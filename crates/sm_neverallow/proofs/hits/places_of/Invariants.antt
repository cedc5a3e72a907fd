use Rattle.sm_neverallow.specs.Hitting.{Chosen, Escapes}
use Rattle.sm_neverallow.proofs.hits.places_of.Given as goal

abbrev pub invariant-loop-place : goal.invariant-loop-place
invariant-loop-place l = Chosen l.rules l.set.0 l.place (Escapes l.targets) l.places.items
