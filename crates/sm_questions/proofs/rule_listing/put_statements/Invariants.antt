use Rattle.std.proofs.Common.{◌≡◌, take}
use Rattle.std.specs.List.{flat_map}
use Rattle.sm_engine.specs.Counts.{failures_of, inner_of}
use Rattle.sm_questions.specs.Buffered.{Passes}
use Rattle.sm_questions.specs.Covering.{AreQuotes, statement_lines}
use Rattle.sm_questions.proofs.Steps.{ArePassed}
use Rattle.sm_questions.proofs.rule_listing.put_statements.Given as goal

abbrev pub invariant-loop-statement : goal.invariant-loop-statement
invariant-loop-statement g l = record {
  quotes : AreQuotes l.fn.quotes.path.now l.fn.quotes.text.now l.quotes;
  passed : ArePassed l.policy l.statement-index l.passed;
  so_far : Passes (g.W.Write.contents (inner_of l.initial.writer)) (g.W.Write.contents (inner_of l.writer))
      l.initial.held.items l.held.items
      (flat_map (statement_lines l.fn.quotes.path.now l.fn.quotes.text.now l.policy l.filter)
      (take l.statement-index l.policy.statements));
  count : failures_of l.writer ≡ failures_of l.initial.writer;
}
