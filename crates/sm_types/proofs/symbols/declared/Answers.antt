use Rattle.std.proofs.Common.{◌≡◌, ◌+◌, [], drop, arith, sym, ◌∙◌, ℕ}
use Rattle.std.proofs.lemmas.Result.{err_from_is_err_and}
use Rattle.std.proofs.lemmas.List.{drop_all, drop_more}
use Rattle.sm_types.specs.Declaring.{declared, nothing}
use Rattle.sm_types.proofs.Runs.{declared_on, declared_fault, declared_all}
use Rattle.sm_types.proofs.symbols.declared.Goals as goal

pub loop-statement-preserved : goal.loop-statement-preserved
loop-statement-preserved c =
    let i : ℕ = c.loop-statement.statement-index in
    let f = rw (← c.statement-item.is) at (drop_more c.args.statements.now i c.statement-item.result (omega arith)) in
    record {
      few = c.in_ok-symbols.ensures.few c.loop-statement.invariant.few;
      on = declared_on (declared nothing c.args.statements.now) c.loop-statement.symbols c.in_ok-symbols.symbols
          c.statement-item.result (drop (i + 1) c.args.statements.now)
          (rw f at c.loop-statement.invariant.on) c.in_ok-symbols.ensures.exact;
    }

pub returns-in_err-symbols-clause-exact : goal.returns-in_err-symbols-clause-exact
returns-in_err-symbols-clause-exact c =
    let i : ℕ = c.loop-statement.statement-index in
    let f = rw (← c.statement-item.is) at (drop_more c.args.statements.now i c.statement-item.result (omega arith)) in
    let p = err_from_is_err_and c.from_residual.result c.from_residual.ensures.1 in
    rw (p.1, p.2) (declared_fault c.in_err-symbols.field-0.0 (declared nothing c.args.statements.now)
    c.loop-statement.symbols c.statement-item.result (drop (i + 1) c.args.statements.now)
    (rw f at c.loop-statement.invariant.on) c.in_err-symbols.ensures.exact)

pub returns-clause-exact : goal.returns-clause-exact
returns-clause-exact c =
    let none : drop c.loop-statement.statement-index c.args.statements.now ≡ [] =
    drop_all c.loop-statement.statement-index c.args.statements.now (omega arith) in
    sym c.loop-statement.invariant.on ∙ declared_all c.loop-statement.symbols
    (drop c.loop-statement.statement-index c.args.statements.now) none
