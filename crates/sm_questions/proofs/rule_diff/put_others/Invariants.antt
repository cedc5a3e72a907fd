use Rattle.std.proofs.Common.{◌≡◌, take}
use Rattle.std.specs.List.{flat_map}
use Rattle.sm_engine.specs.Counts.{failures_of, inner_of}
use Rattle.sm_questions.specs.Buffered.{Passes}
use Rattle.sm_questions.specs.Differences.{is_any}
use Rattle.sm_questions.specs.Parts.{other_parts, part_lines}
use Rattle.sm_questions.proofs.rule_diff.put_others.Given as goal

abbrev pub invariant-loop-part : goal.invariant-loop-part
invariant-loop-part g l = record {
  so_far : Passes (g.W.Write.contents (inner_of l.initial.writer)) (g.W.Write.contents (inner_of l.writer))
      l.initial.held.items l.held.items (flat_map (part_lines l.old l.new) (take l.part-index other_parts));
  any : l.any ≡ is_any (flat_map (part_lines l.old l.new) (take l.part-index other_parts));
  count : failures_of l.writer ≡ failures_of l.initial.writer;
}
