use Rattle.std.proofs.Common.{◌≡◌, length}
use Rattle.sm_engine.specs.Counts.{failures_of, inner_of}
use Rattle.sm_questions.proofs.Verdicts.{SoFar}
use Rattle.sm_questions.proofs.judging.put_violations.Given as goal

abbrev pub invariant-violations : goal.invariant-violations
invariant-violations g l = record {
  so_far : SoFar (g.W.Write.contents (inner_of l.initial.writer)) (g.W.Write.contents (inner_of l.writer))
      l.initial.held.items l.held.items l.initial.violations l.violations;
  count : failures_of l.writer ≡ failures_of l.initial.writer;
}

abbrev pub decreases-violations : goal.decreases-violations
decreases-violations g l = length l.violations
