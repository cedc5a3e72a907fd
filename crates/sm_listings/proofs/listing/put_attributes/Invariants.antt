use Rattle.std.proofs.Common.{◌≡◌, take}
use Rattle.std.specs.List.{flat_map}
use Rattle.sm_engine.specs.Counts.{failures_of, inner_of}
use Rattle.sm_questions.specs.Buffered.{Passes}
use Rattle.sm_types.specs.Denoting.{attributes}
use Rattle.sm_listings.specs.Listed.{wanted_attribute}
use Rattle.sm_listings.proofs.listing.put_attributes.Given as goal

abbrev pub invariant-loop-a : goal.invariant-loop-a
invariant-loop-a g l = record {
  so_far : Passes (g.W.Write.contents (inner_of l.initial.writer)) (g.W.Write.contents (inner_of l.writer))
      l.initial.held.items l.held.items
      (flat_map (wanted_attribute l.fn.policy.statements l.fn.word) (take l.a (attributes l.fn.policy.statements)));
  count : failures_of l.writer ≡ failures_of l.initial.writer;
}
