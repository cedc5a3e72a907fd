use Rattle.std.proofs.Common.{◌≡◌, length, take}
use Rattle.std.specs.List.{flat_map}
use Rattle.sm_engine.specs.Counts.{failures_of, inner_of}
use Rattle.sm_questions.specs.Buffered.{Passes}
use Rattle.sm_questions.specs.Covering.{AreQuotes}
use Rattle.sm_questions.specs.Differences.{is_any}
use Rattle.sm_questions.specs.RuleChanges.{numbers_from}
use Rattle.sm_questions.specs.Tallies.{counted_at}
use Rattle.sm_questions.proofs.rule_changes.put_counts.Given as goal

abbrev pub invariant-loop-place : goal.invariant-loop-place
invariant-loop-place g l = record {
  quotes : AreQuotes l.fn.quotes.path.now l.fn.quotes.text.now l.quotes;
  so_far : Passes (g.W.Write.contents (inner_of l.initial.writer)) (g.W.Write.contents (inner_of l.writer))
      l.initial.held.items l.held.items
      (flat_map (counted_at l.sign l.fn.quotes.path.now l.fn.quotes.text.now l.counts)
      (take l.place (numbers_from 0 (length l.counts))));
  any : l.any ≡ is_any (flat_map (counted_at l.sign l.fn.quotes.path.now l.fn.quotes.text.now l.counts)
      (take l.place (numbers_from 0 (length l.counts))));
  count : failures_of l.writer ≡ failures_of l.initial.writer;
}
