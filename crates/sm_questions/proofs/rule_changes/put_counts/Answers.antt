use Rattle.std.proofs.Common.{◌∙◌, ◌<◌, ◌≤◌, ◌++◌, ℕ, ap, length, sym, arith}
use Rattle.sm_engine.proofs.Results.{on_err}
use Rattle.sm_questions.specs.RuleChanges.{numbers_from}
use Rattle.sm_questions.specs.Tallies.{counted_at}
use Rattle.sm_questions.proofs.Anything.{any_held, any_list, any_step}
use Rattle.sm_questions.proofs.Buffering.{passes_list, passes_step, stops_lost, stops_step}
use Rattle.sm_questions.proofs.Changes.{numbers_many, place_at}
use Rattle.sm_questions.proofs.rule_changes.put_counts.Goals as goal

pub returns-in_err-push_place-clause-stopped : goal.returns-in_err-push_place-clause-stopped
returns-in_err-push_place-clause-stopped g c =
    let counts = c.args.counts.now in
    let f = counted_at c.args.sign c.args.quotes.now.path.now c.args.quotes.now.text.now counts in
    on_err c.from_residual.result
    (stops_lost f (numbers_from 0 (length counts)) c.loop-place.place c.loop-place.invariant.so_far)

pub returns-in_err-write_full-clause-stopped : goal.returns-in_err-write_full-clause-stopped
returns-in_err-write_full-clause-stopped g c =
    let counts = c.args.counts.now in
    let f = counted_at c.args.sign c.args.quotes.now.path.now c.args.quotes.now.text.now counts in
    let places = numbers_from 0 (length counts) in
    let i : ℕ = c.loop-place.place in
    let lt : i < length counts = c.loop-place-test.true in
    let inside : i < length places = omega (arith, lt, numbers_many 0 (length counts)) in
    let line = rw (c.loop-place.invariant.quotes.of_path, c.loop-place.invariant.quotes.of_text)
    at c.in_ok-push_place.ensures.line in
    on_err c.from_residual-in_err-write_full.result (stops_step f places i 0 inside
    c.loop-place.invariant.so_far
    (line ∙ ap (λ (p : ℕ). c.loop-place.held.items ++ f p) (sym (place_at (length counts) i 0 lt)))
    c.in_err-write_full.ensures.stopped)

pub loop-place-preserved : goal.loop-place-preserved
loop-place-preserved g c =
    let counts = c.args.counts.now in
    let f = counted_at c.args.sign c.args.quotes.now.path.now c.args.quotes.now.text.now counts in
    let places = numbers_from 0 (length counts) in
    let i : ℕ = c.loop-place.place in
    let lt : i < length counts = c.loop-place-test.true in
    let inside : i < length places = omega (arith, lt, numbers_many 0 (length counts)) in
    let line = rw (c.loop-place.invariant.quotes.of_path, c.loop-place.invariant.quotes.of_text)
    at c.in_ok-push_place.ensures.line in
    let next = line ∙ ap (λ (p : ℕ). c.loop-place.held.items ++ f p) (sym (place_at (length counts) i 0 lt)) in
    record {
      quotes = rw (c.loop-place.invariant.quotes.of_path, c.loop-place.invariant.quotes.of_text)
          at c.in_ok-push_place.ensures.quotes;
      so_far = passes_step f places i 0 inside c.loop-place.invariant.so_far next c.in_ok-write_full.ensures.ok;
      any = any_step f places i 0 inside c.loop-place.invariant.any
          (any_held c.loop-place.held.items _ next)
          (rw (c.len-before.ensures, c.len.ensures, c.loop-place.held.ok.0, c.push_place.new.held.ok.0)
          at c.either-any.ensures);
      count = c.in_ok-write_full.ensures.count ∙ c.loop-place.invariant.count;
    }

pub returns-clause-ok : goal.returns-clause-ok
returns-clause-ok g c =
    let counts = c.args.counts.now in
    let f = counted_at c.args.sign c.args.quotes.now.path.now c.args.quotes.now.text.now counts in
    let past : length (numbers_from 0 (length counts)) ≤ c.loop-place.place =
    omega (arith, c.loop-place-test.false, numbers_many 0 (length counts)) in
    passes_list f (numbers_from 0 (length counts)) c.loop-place.place past c.loop-place.invariant.so_far

pub returns-clause-any : goal.returns-clause-any
returns-clause-any g c =
    let counts = c.args.counts.now in
    let f = counted_at c.args.sign c.args.quotes.now.path.now c.args.quotes.now.text.now counts in
    let past : length (numbers_from 0 (length counts)) ≤ c.loop-place.place =
    omega (arith, c.loop-place-test.false, numbers_many 0 (length counts)) in
    any_list f (numbers_from 0 (length counts)) c.loop-place.place past c.loop-place.invariant.any
