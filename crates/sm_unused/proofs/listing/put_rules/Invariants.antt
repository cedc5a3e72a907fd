use Rattle.std.proofs.Common.{◌≡◌, take}
use Rattle.std.specs.List.{flat_map}
use Rattle.sm_engine.specs.Counts.{failures_of, inner_of}
use Rattle.sm_questions.specs.Buffered.{Passes}
use Rattle.sm_questions.specs.Covering.{AreQuotes}
use Rattle.sm_unused.specs.Unused.{word_line}
use Rattle.sm_unused.proofs.listing.put_rules.Given as goal

abbrev pub invariant-loop-number : goal.invariant-loop-number
invariant-loop-number g l = record {
  quotes : AreQuotes l.fn.quotes.path.now l.fn.quotes.text.now l.quotes;
  so_far : Passes (g.W.Write.contents (inner_of l.initial.writer)) (g.W.Write.contents (inner_of l.writer))
      l.initial.held.items l.held.items
      (flat_map (word_line l.word l.fn.quotes.path.now l.fn.quotes.text.now) (take l.number-index l.numbers));
  count : failures_of l.writer ≡ failures_of l.initial.writer;
}
