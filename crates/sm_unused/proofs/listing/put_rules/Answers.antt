use Rattle.std.proofs.Common.{◌∙◌}
use Rattle.sm_engine.proofs.Results.{on_err}
use Rattle.sm_questions.proofs.Buffering.{passes_step, stops_lost, stops_step}
use Rattle.sm_unused.specs.Unused.{word_line}
use Rattle.sm_unused.proofs.listing.put_rules.Goals as goal

pub returns-in_err-push_rule-clause-stopped : goal.returns-in_err-push_rule-clause-stopped
returns-in_err-push_rule-clause-stopped g c =
    let f = word_line c.args.word.now c.args.quotes.now.path.now c.args.quotes.now.text.now in
    on_err c.from_residual.result
    (stops_lost f c.args.numbers.now c.loop-number.number-index c.loop-number.invariant.so_far)

pub returns-in_err-write_full-clause-stopped : goal.returns-in_err-write_full-clause-stopped
returns-in_err-write_full-clause-stopped g c =
    let f = word_line c.args.word.now c.args.quotes.now.path.now c.args.quotes.now.text.now in
    let line = rw (c.loop-number.invariant.quotes.of_path, c.loop-number.invariant.quotes.of_text)
    at c.in_ok-push_rule.ensures.line in
    on_err c.from_residual-in_err-write_full.result (stops_step f c.args.numbers.now c.loop-number.number-index 0
    c.loop-number-test.true c.loop-number.invariant.so_far line c.in_err-write_full.ensures.stopped)

pub loop-number-preserved : goal.loop-number-preserved
loop-number-preserved g c =
    let f = word_line c.args.word.now c.args.quotes.now.path.now c.args.quotes.now.text.now in
    let line = rw (c.loop-number.invariant.quotes.of_path, c.loop-number.invariant.quotes.of_text)
    at c.in_ok-push_rule.ensures.line in
    record {
      quotes = rw (c.loop-number.invariant.quotes.of_path, c.loop-number.invariant.quotes.of_text)
          at c.in_ok-push_rule.ensures.quotes;
      so_far = passes_step f c.args.numbers.now c.loop-number.number-index 0 c.loop-number-test.true
          c.loop-number.invariant.so_far line c.in_ok-write_full.ensures.ok;
      count = c.in_ok-write_full.ensures.count ∙ c.loop-number.invariant.count;
    }
