use Rattle.std.proofs.lemmas.Result.{err_from_is_err_and}
use Rattle.sm_ruletext.specs.Statements.{statements_of}
use Rattle.sm_ruletext.proofs.Runs.{leads_first, leads_on, leads_to_fault, leads_to_end}
use Rattle.sm_ruletext.proofs.reading.all.Goals as goal

pub statements-init : goal.statements-init
statements-init c = rw c.new-statements.ensures (leads_first c.args.tokens)

pub returns-in_err-statements : goal.returns-in_err-statements
returns-in_err-statements c =
    let p = err_from_is_err_and c.from_residual.result c.from_residual.ensures.1 in
    rw (p.1, p.2) (leads_to_fault c.in_err-statements.field-0.0 (statements_of c.args.tokens) c.statements.statements
    c.in-Some.line c.in-Some.first c.statements.tokens c.take.new.self c.in-Some.ensures.taken
    c.statements.invariant c.in_err-statements.ensures.read)

pub statements-preserved : goal.statements-preserved
statements-preserved c =
    leads_on (statements_of c.args.tokens) c.statements.statements c.in_ok-statements.statements c.in-Some.line
    c.in-Some.first c.statements.tokens c.take.new.self c.statement.new.tokens c.in-Some.ensures.taken
    c.statements.invariant c.in_ok-statements.ensures.read c.in_ok-statements.ensures.fewer

pub returns : goal.returns
returns c = rw c.into_vec.ensures
    (leads_to_end (statements_of c.args.tokens) c.statements.statements c.statements.tokens c.in_default.ensures.none
    c.statements.invariant)
