use Rattle.std.proofs.Common.{rules, ◌≡◌, ◌+◌, ℕ, drop, take, arith, sym, ◌∙◌, List, Some}
use Rattle.std.proofs.lemmas.Result.{err_from_is_err_and}
use Rattle.std.proofs.lemmas.List.{drop_all, drop_more}
use Rattle.sm_ruletext.specs.declared.statement.Statement.{Statement}
use Rattle.sm_types.specs.Members.{IsOf}
use Rattle.sm_rules.specs.Faults.{first_fault, fault_of}
use Rattle.sm_rules.specs.Keeping.{rule_in, rules_in, list_of}
use Rattle.sm_rules.proofs.Standing.{picked_more, extended}
use Rattle.sm_rules.proofs.Walks.{passed, stopped, none_left, unless_map}
use Rattle.sm_rules.proofs.Permitting.{permitted_more}
use Rattle.sm_rules.proofs.draft.all_rules.Goals as goal

pub loop-statement-preserved : goal.loop-statement-preserved
loop-statement-preserved c =
    let sts = c.args.statements.now in
    let names = c.args.types.now.symbols.types in
    let i : ℕ = c.loop-statement.statement-index in
    let st = c.statement-item.result in
    let old = c.loop-statement.draft in
    let new = c.add_statement.new.draft in
    let f = rw (← c.statement-item.is) at (drop_more sts i st (omega arith)) in
    record {
      on = passed sts st (drop (i + 1) sts) (first_fault sts)
          (rw f at c.loop-statement.invariant.on) (c.in_ok-add_statement.ensures.accepted sts c.requires);
      kept = λ kind. rw (picked_more (rule_in kind) sts i st (omega arith) c.statement-item.is)
          (extended sts names (rules_in kind (take i sts)) (rule_in kind st)
          (list_of kind old.allows.items old.neverallows.items old.silences.items)
          (list_of kind new.allows.items new.neverallows.items new.silences.items)
          (c.loop-statement.invariant.kept kind) (c.in_ok-add_statement.ensures.added sts c.requires kind));
      permissive = permitted_more names sts i st old.permissive new.permissive (omega arith) c.statement-item.is
          c.loop-statement.invariant.permissive (c.in_ok-add_statement.ensures.permissive sts c.requires);
      pool = rw c.add_statement.ensures.pool c.loop-statement.invariant.pool;
      memo = c.in_ok-add_statement.ensures.memo;
      room = c.add_statement.ensures.same ∙ c.loop-statement.invariant.room;
      few = omega (arith, c.loop-statement.invariant.few, c.in_ok-add_statement.ensures.few);
      fits = c.in_ok-add_statement.ensures.fits c.loop-statement.invariant.fits;
    }

pub returns-in_err-add_statement-clause-refused : goal.returns-in_err-add_statement-clause-refused
returns-in_err-add_statement-clause-refused c =
    let sts = c.args.statements.now in
    let i : ℕ = c.loop-statement.statement-index in
    let st = c.statement-item.result in
    let f = rw (← c.statement-item.is) at (drop_more sts i st (omega arith)) in
    let p = err_from_is_err_and c.from_residual-in_err-add_statement.result
    c.from_residual-in_err-add_statement.ensures.1 in
    let e = c.in_err-add_statement.field-0.0 in
    let fault = unless_map e ((policy : List Statement) → IsOf policy c.args.types.now
    → fault_of policy st.line st.what ≡ Some e)
    (fault_of sts st.line st.what ≡ Some e) (λ h. h sts c.requires) c.in_err-add_statement.ensures.refused in
    rw (p.1, p.2) (stopped sts st (drop (i + 1) sts) (first_fault sts) e (rw f at c.loop-statement.invariant.on) fault)

pub returns-clause-accepted : goal.returns-clause-accepted
returns-clause-accepted c =
    sym c.loop-statement.invariant.on ∙ none_left c.args.statements.now
    (drop c.loop-statement.statement-index c.args.statements.now)
    (drop_all c.loop-statement.statement-index c.args.statements.now (omega arith))

pub loop-statement-init : goal.loop-statement-init
loop-statement-init c =
    let memo = c.new-memo.ensures c.args.types.now in
    search rules
