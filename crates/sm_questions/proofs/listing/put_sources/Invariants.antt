use Rattle.std.proofs.Common.{◌≡◌, take}
use Rattle.std.specs.List.{flat_map}
use Rattle.sm_engine.specs.Counts.{failures_of, inner_of}
use Rattle.sm_types.specs.Denoting.{types}
use Rattle.sm_questions.specs.Accesses.{source_lines}
use Rattle.sm_questions.specs.Buffered.{Passes}
use Rattle.sm_questions.specs.FirstLines.{IsAsked}
use Rattle.sm_questions.proofs.listing.put_sources.Given as goal

abbrev pub invariant-loop-source : goal.invariant-loop-source
invariant-loop-source g l = record {
  table : IsAsked l.policy l.filter l.table;
  so_far : Passes (g.W.Write.contents (inner_of l.initial.writer)) (g.W.Write.contents (inner_of l.writer))
      l.initial.held.items l.held.items (flat_map (source_lines l.policy l.filter)
      (take l.source (types l.policy.statements)));
  count : failures_of l.writer ≡ failures_of l.initial.writer;
}
