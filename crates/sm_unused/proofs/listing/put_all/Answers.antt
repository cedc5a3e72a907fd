use Rattle.sm_engine.proofs.Results.{on_err}
use Rattle.sm_questions.proofs.Buffering.{passes_held, passes_then, stops_more, stops_none, stops_then}
use Rattle.sm_unused.proofs.listing.put_all.Goals as goal

pub returns-in_err-put_rules-clause-stopped : goal.returns-in_err-put_rules-clause-stopped
returns-in_err-put_rules-clause-stopped g c =
    let stopped = rw c.deref.ensures.value at c.in_err-put_rules.ensures.stopped in
    on_err c.from_residual.result (stops_more _ _ (stops_more _ _ stopped))

pub returns-in_err-put_rules-2-clause-stopped : goal.returns-in_err-put_rules-2-clause-stopped
returns-in_err-put_rules-2-clause-stopped g c =
    let first = rw c.deref.ensures.value at c.in_ok-put_rules.ensures.ok in
    let stopped = rw (
      c.in_ok-put_rules.ensures.quotes.of_path,
      c.in_ok-put_rules.ensures.quotes.of_text,
      c.deref-2.ensures.value,
    ) at c.in_err-put_rules-2.ensures.stopped in
    on_err c.from_residual-in_err-put_rules-2.result (stops_more _ _ (stops_then _ _ first stopped))

pub returns-in_err-extend_from_slice-clause-stopped : goal.returns-in_err-extend_from_slice-clause-stopped
returns-in_err-extend_from_slice-clause-stopped g c =
    let first = rw c.deref.ensures.value at c.in_ok-put_rules.ensures.ok in
    let second = rw (
      c.in_ok-put_rules.ensures.quotes.of_path,
      c.in_ok-put_rules.ensures.quotes.of_text,
      c.deref-2.ensures.value,
    ) at c.in_ok-put_rules-2.ensures.ok in
    on_err c.from_residual-in_err-extend_from_slice.result
    (stops_then _ _ (passes_then _ _ first second) (stops_none _ _ _))

pub returns-clause-ok : goal.returns-clause-ok
returns-clause-ok g c =
    let first = rw c.deref.ensures.value at c.in_ok-put_rules.ensures.ok in
    let second = rw (
      c.in_ok-put_rules.ensures.quotes.of_path,
      c.in_ok-put_rules.ensures.quotes.of_text,
      c.deref-2.ensures.value,
    ) at c.in_ok-put_rules-2.ensures.ok in
    passes_then _ _ (passes_then _ _ first second)
    (passes_held _ _ _ _ c.in_ok-extend_from_slice.ensures.items)
