use Rattle.std.proofs.Common.{◌≤◌}
use Rattle.sm_neverallow.proofs.hits.have_many_sources.Given as goal

abbrev pub invariant-loop-place : goal.invariant-loop-place
invariant-loop-place l = l.sources ≤ l.many
