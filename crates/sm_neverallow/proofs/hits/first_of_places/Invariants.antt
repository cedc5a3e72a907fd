use Rattle.std.proofs.Common.{◌*◌}
use Rattle.sm_neverallow.proofs.Sifting.{Sifted}
use Rattle.sm_neverallow.proofs.hits.first_of_places.Given as goal

abbrev pub invariant-loop-step : goal.invariant-loop-step
invariant-loop-step l = Sifted l.matrix l.rules l.places l.own l.count (4 * l.step) l.found
