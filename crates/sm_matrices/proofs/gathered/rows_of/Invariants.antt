use Rattle.std.proofs.Common.{◌≡◌, ◌<◌, ℕ, take}
use Rattle.sm_matrices.specs.Matrices.{joined_by}
use Rattle.sm_matrices.specs.Uniting.{FitsGathered, in_gathered}
use Rattle.sm_matrices.proofs.gathered.rows_of.Given as goal

abbrev pub invariant-loop-rule : goal.invariant-loop-rule
invariant-loop-rule l = record {
  fits : FitsGathered l.count l.gathered;
  joined : (s t : ℕ) → s < l.count → in_gathered l.gathered s t ≡ joined_by (take l.rule-index l.rules) l.set.0 s t;
}
