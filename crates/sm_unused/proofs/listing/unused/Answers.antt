use Rattle.std.proofs.Common.{◌∙◌}
use Rattle.sm_engine.proofs.Results.{on_err}
use Rattle.sm_questions.proofs.Buffering.{passes_front, passes_whole, stops_end}
use Rattle.sm_unused.specs.Declarations.{declaration_lines}
use Rattle.sm_unused.specs.Unused as spec
use Rattle.sm_unused.proofs.Lines.{no_lines}
use Rattle.sm_unused.proofs.listing.unused.Goals as goal

pub returns-in_err-put_all-clause-front : goal.returns-in_err-put_all-clause-front
unfolding spec.unused_lines
returns-in_err-put_all-clause-front g c =
    let stopped = rw (
      c.new-held.ensures.items,
      c.in_ok-quotes.ensures.of_path,
      c.in_ok-quotes.ensures.of_text,
      c.in_ok-found.ensures.allows,
      c.in_ok-found.ensures.dontaudits,
      c.deref-2.ensures.value,
      c.in_ok-declared.ensures,
    ) at c.in_err-put_all.ensures.stopped in
    on_err c.from_residual-in_err-put_all.result (stops_end stopped)

pub returns-in_err-write_whole-clause-front : goal.returns-in_err-write_whole-clause-front
unfolding spec.unused_lines
returns-in_err-write_whole-clause-front g c =
    let passes = rw (
      c.new-held.ensures.items,
      c.in_ok-quotes.ensures.of_path,
      c.in_ok-quotes.ensures.of_text,
      c.in_ok-found.ensures.allows,
      c.in_ok-found.ensures.dontaudits,
      c.deref-2.ensures.value,
      c.in_ok-declared.ensures,
    ) at c.in_ok-put_all.ensures.ok in
    let front = rw c.deref-3.ensures.value at c.in_err-write_whole.ensures.front in
    on_err c.from_residual-in_err-write_whole.result (passes_front _ front.0 passes front.1)

pub returns-clause-none : goal.returns-clause-none
unfolding spec.unused_lines
returns-clause-none g c =
    let policy = c.args.policy.now in
    let allows = spec.numbers_of (spec.unused_allows policy.statements) in
    let dontaudits = spec.numbers_of (spec.unused_dontaudits policy.statements) in
    let declared = declaration_lines c.args.rules_path.now c.args.contexts_path.now policy in
    c.is_empty.ensures ∙ rw (
      c.in_ok-found.ensures.allows,
      c.in_ok-found.ensures.dontaudits,
      c.deref-4.ensures.value,
      c.in_ok-declared.ensures,
    ) (no_lines c.args.rules_path.now c.args.text.now allows dontaudits declared)

pub returns-clause-written : goal.returns-clause-written
unfolding spec.unused_lines
returns-clause-written g c =
    let passes = rw (
      c.new-held.ensures.items,
      c.in_ok-quotes.ensures.of_path,
      c.in_ok-quotes.ensures.of_text,
      c.in_ok-found.ensures.allows,
      c.in_ok-found.ensures.dontaudits,
      c.deref-2.ensures.value,
      c.in_ok-declared.ensures,
    ) at c.in_ok-put_all.ensures.ok in
    passes_whole _ passes (rw c.deref-3.ensures.value at c.in_ok-write_whole.ensures.ok)
