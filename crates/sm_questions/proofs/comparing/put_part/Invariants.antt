use Rattle.std.proofs.Common.{◌≡◌, take}
use Rattle.std.specs.List.{flat_map}
use Rattle.sm_engine.specs.Counts.{failures_of, inner_of}
use Rattle.sm_questions.specs.Buffered.{Passes}
use Rattle.sm_questions.specs.Differences.{is_any}
use Rattle.sm_questions.specs.Parts.{lines_of, names_in}
use Rattle.sm_questions.proofs.comparing.put_part.Given as goal

abbrev pub invariant-loop-index : goal.invariant-loop-index
invariant-loop-index g l = record {
  so_far : Passes (g.W.Write.contents (inner_of l.initial.writer)) (g.W.Write.contents (inner_of l.writer))
      l.initial.held.items l.held.items (flat_map (lines_of l.part l.old l.new)
      (take l.index (names_in l.part l.old l.new)));
  any : l.any ≡ is_any (flat_map (lines_of l.part l.old l.new) (take l.index (names_in l.part l.old l.new)));
  count : failures_of l.writer ≡ failures_of l.initial.writer;
}
