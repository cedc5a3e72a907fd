use Rattle.std.proofs.Common.{◌<◌, ◌≤◌, ◌∙◌, ◌++◌, ℕ, length, ap, arith}
use Rattle.sm_engine.proofs.Results.{on_err}
use Rattle.sm_ruletext.specs.declared.statement.Statement.{Statement}
use Rattle.sm_questions.specs.Covering.{statement_lines}
use Rattle.sm_questions.proofs.Buffering.{passes_list, passes_step, stops_lost, stops_step}
use Rattle.sm_questions.proofs.Steps.{all_statements, next_is, passed_few, passed_more}
use Rattle.sm_questions.proofs.rule_listing.put_statements.Goals as goal

pub push_listed-requires-clause-next : goal.push_listed-requires-clause-next
push_listed-requires-clause-next g c =
    let policy = c.args.policy.now in
    let i : ℕ = c.loop-statement.statement-index in
    let lt : i < length policy.statements = rw c.requires.statements at c.loop-statement-test.true in
    next_is policy c.loop-statement.passed i c.statement-item.result lt
    (rw c.requires.statements at c.statement-item.is) c.loop-statement.invariant.passed

pub returns-in_err-push_listed-clause-stopped : goal.returns-in_err-push_listed-clause-stopped
returns-in_err-push_listed-clause-stopped g c =
    let policy = c.args.policy.now in
    let path = c.args.quotes.now.path.now in
    let text = c.args.quotes.now.text.now in
    let f = statement_lines path text policy c.args.filter.now in
    rw (← all_statements path text policy c.args.filter.now)
    (on_err c.from_residual.result
    (stops_lost f policy.statements c.loop-statement.statement-index c.loop-statement.invariant.so_far))

pub returns-in_err-write_full-clause-stopped : goal.returns-in_err-write_full-clause-stopped
returns-in_err-write_full-clause-stopped g c =
    let policy = c.args.policy.now in
    let path = c.args.quotes.now.path.now in
    let text = c.args.quotes.now.text.now in
    let f = statement_lines path text policy c.args.filter.now in
    let i : ℕ = c.loop-statement.statement-index in
    let it = c.statement-item.result in
    let lt : i < length policy.statements = rw c.requires.statements at c.loop-statement-test.true in
    let is = rw c.requires.statements at c.statement-item.is in
    let line = rw (c.loop-statement.invariant.quotes.of_path, c.loop-statement.invariant.quotes.of_text)
    at c.in_ok-push_listed.ensures.line in
    rw (← all_statements path text policy c.args.filter.now)
    (on_err c.from_residual-in_err-write_full.result (stops_step f policy.statements i it lt
    c.loop-statement.invariant.so_far (line ∙ ap (λ (st : Statement). c.loop-statement.held.items ++ f st) is)
    c.in_err-write_full.ensures.stopped))

pub add-requires : goal.add-requires
add-requires g c = record {
  few = λ kind.
      let few = passed_few c.args.policy.now c.loop-statement.passed c.loop-statement.statement-index kind
      c.loop-statement.invariant.passed in
      omega (arith, few);
}

pub loop-statement-preserved : goal.loop-statement-preserved
loop-statement-preserved g c =
    let policy = c.args.policy.now in
    let path = c.args.quotes.now.path.now in
    let text = c.args.quotes.now.text.now in
    let f = statement_lines path text policy c.args.filter.now in
    let i : ℕ = c.loop-statement.statement-index in
    let it = c.statement-item.result in
    let lt : i < length policy.statements = rw c.requires.statements at c.loop-statement-test.true in
    let is = rw c.requires.statements at c.statement-item.is in
    let line = rw (c.loop-statement.invariant.quotes.of_path, c.loop-statement.invariant.quotes.of_text)
    at c.in_ok-push_listed.ensures.line in
    record {
      quotes = rw (c.loop-statement.invariant.quotes.of_path, c.loop-statement.invariant.quotes.of_text)
          at c.in_ok-push_listed.ensures.quotes;
      passed = passed_more policy c.loop-statement.passed c.add.new.self i it lt is
          c.loop-statement.invariant.passed c.add.ensures;
      so_far = passes_step f policy.statements i it lt c.loop-statement.invariant.so_far
          (line ∙ ap (λ (st : Statement). c.loop-statement.held.items ++ f st) is) c.in_ok-write_full.ensures.ok;
      count = c.in_ok-write_full.ensures.count ∙ c.loop-statement.invariant.count;
    }

pub returns-clause-ok : goal.returns-clause-ok
returns-clause-ok g c =
    let policy = c.args.policy.now in
    let path = c.args.quotes.now.path.now in
    let text = c.args.quotes.now.text.now in
    let f = statement_lines path text policy c.args.filter.now in
    let past : length policy.statements ≤ c.loop-statement.statement-index =
    rw c.requires.statements at c.loop-statement-test.false in
    rw (← all_statements path text policy c.args.filter.now)
    (passes_list f policy.statements c.loop-statement.statement-index past c.loop-statement.invariant.so_far)
