use Rattle.std.proofs.Common.{◌≡◌, take}
use Rattle.std.specs.List.{flat_map}
use Rattle.sm_engine.specs.Counts.{failures_of, inner_of}
use Rattle.sm_questions.specs.Buffered.{Passes}
use Rattle.sm_listings.specs.Named.{allowed_line}
use Rattle.sm_listings.proofs.naming.put_entries.Given as goal

abbrev pub invariant-loop-i : goal.invariant-loop-i
invariant-loop-i g l = record {
  so_far : Passes (g.W.Write.contents (inner_of l.initial.writer)) (g.W.Write.contents (inner_of l.writer))
      l.initial.held.items l.held.items
      (flat_map (allowed_line l.fn.policy l.fn.source l.fn.perm) (take l.i l.fn.policy.entries));
  count : failures_of l.writer ≡ failures_of l.initial.writer;
}
