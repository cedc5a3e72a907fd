use Rattle.std.proofs.Common.{◌≡◌, take}
use Rattle.std.specs.List.{flat_map}
use Rattle.sm_engine.specs.Counts.{failures_of, inner_of}
use Rattle.sm_questions.specs.Buffered.{Passes}
use Rattle.sm_types.specs.Denoting.{types}
use Rattle.sm_listings.specs.Listed.{wanted_type}
use Rattle.sm_listings.proofs.listing.put_types.Given as goal

abbrev pub invariant-loop-t : goal.invariant-loop-t
invariant-loop-t g l = record {
  so_far : Passes (g.W.Write.contents (inner_of l.initial.writer)) (g.W.Write.contents (inner_of l.writer))
      l.initial.held.items l.held.items
      (flat_map (wanted_type l.fn.policy.statements l.fn.word) (take l.t (types l.fn.policy.statements)));
  count : failures_of l.writer ≡ failures_of l.initial.writer;
}
