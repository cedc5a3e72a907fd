use Rattle.sm_engine.proofs.Results.{on_err}
use Rattle.sm_questions.specs.RuleChanges.{rule_differences}
use Rattle.sm_questions.proofs.Anything.{none_of_three}
use Rattle.sm_questions.proofs.Buffering.{passes_front, passes_then, passes_whole, stops_end, stops_more, stops_then}
use Rattle.sm_questions.proofs.rule_diff.diff_rules.Goals as goal

pub returns-in_err-lost-clause-front : goal.returns-in_err-lost-clause-front
unfolding rule_differences
returns-in_err-lost-clause-front g c =
    let stopped = rw c.new-held.ensures.items at c.in_err-lost.ensures.stopped in
    on_err c.from_residual.result (stops_end (stops_more _ _ (stops_more _ _ stopped)))

pub returns-in_err-gained-clause-front : goal.returns-in_err-gained-clause-front
unfolding rule_differences
returns-in_err-gained-clause-front g c =
    let first = rw c.new-held.ensures.items at c.in_ok-lost.ensures.ok in
    on_err c.from_residual-in_err-gained.result
    (stops_end (stops_more _ _ (stops_then _ _ first c.in_err-gained.ensures.stopped)))

pub returns-in_err-others-clause-front : goal.returns-in_err-others-clause-front
unfolding rule_differences
returns-in_err-others-clause-front g c =
    let first = rw c.new-held.ensures.items at c.in_ok-lost.ensures.ok in
    let both = passes_then _ _ first c.in_ok-gained.ensures.ok in
    on_err c.from_residual-in_err-others.result (stops_end (stops_then _ _ both c.in_err-others.ensures.stopped))

pub returns-in_err-write_whole-clause-front : goal.returns-in_err-write_whole-clause-front
unfolding rule_differences
returns-in_err-write_whole-clause-front g c =
    let first = rw c.new-held.ensures.items at c.in_ok-lost.ensures.ok in
    let both = passes_then _ _ first c.in_ok-gained.ensures.ok in
    let all = passes_then _ _ both c.in_ok-others.ensures.ok in
    let front = rw c.deref.ensures.value at c.in_err-write_whole.ensures.front in
    on_err c.from_residual-in_err-write_whole.result (passes_front _ front.0 all front.1)

pub returns-clause-written : goal.returns-clause-written
unfolding rule_differences
returns-clause-written g c =
    let first = rw c.new-held.ensures.items at c.in_ok-lost.ensures.ok in
    let both = passes_then _ _ first c.in_ok-gained.ensures.ok in
    let all = passes_then _ _ both c.in_ok-others.ensures.ok in
    passes_whole _ all (rw c.deref.ensures.value at c.in_ok-write_whole.ensures.ok)

pub returns-clause-same : goal.returns-clause-same
unfolding rule_differences
returns-clause-same g c = none_of_three _ _ _ c.in_ok-lost.ensures.any c.in_ok-gained.ensures.any
    c.in_ok-others.ensures.any
    c.either.ensures c.either-2.ensures
