use Rattle.std.proofs.Common.{length, ap, arith, sym, ◌∙◌}
use Rattle.std.proofs.lemmas.Result.{err_from_is_err_and}
use Rattle.std.proofs.lemmas.Bool.{cond-true, cond-false}
use Rattle.sm_contexts.specs.Reading.{entries_from, no_entries}
use Rattle.sm_contexts.proofs.Runs.{runs_on, runs_to_fault, runs_out}
use Rattle.sm_contexts.proofs.reading.add_lines.Goals as goal

pub returns-in_err-entries-clause-read : goal.returns-in_err-entries-clause-read
returns-in_err-entries-clause-read c =
    let p = err_from_is_err_and c.from_residual.result c.from_residual.ensures.1 in
    rw (p.1, p.2) (runs_to_fault c.in_err-entries.field-0.0 c.lines.number c.lines.entries c.in-Some.line.now
    c.lines.lines c.take.new.self (entries_from 1 no_entries c.args.lines) c.in-Some.ensures.taken
    c.in_err-entries.ensures.read c.lines.invariant.same)

pub lines-preserved : goal.lines-preserved
lines-preserved c = record {
  same = runs_on c.lines.number c.lines.entries c.in_ok-entries.entries c.in-Some.line.now c.lines.lines c.take.new.self
      (entries_from 1 no_entries c.args.lines) c.in-Some.ensures.taken c.in_ok-entries.ensures.read
      c.lines.invariant.same;
  few = omega (arith, c.lines.invariant.few, ap length c.in-Some.ensures.taken);
  short = omega (arith, c.lines.invariant.short, c.in_ok-entries.ensures.few);
}

pub returns-then-has-clause-read : goal.returns-then-has-clause-read
returns-then-has-clause-read c = (
    runs_out c.lines.number c.lines.entries c.lines.lines (entries_from 1 no_entries c.args.lines)
    c.in_default.ensures.none c.lines.invariant.same
    ∙ cond-true _ _ _ (sym c.has.ensures ∙ c.if-has.true))

pub returns-else-has-clause-read : goal.returns-else-has-clause-read
returns-else-has-clause-read c =
    runs_out c.lines.number c.lines.entries c.lines.lines (entries_from 1 no_entries c.args.lines)
    c.in_default.ensures.none c.lines.invariant.same
    ∙ cond-false _ _ _ (sym c.has.ensures ∙ c.if-has.false)
