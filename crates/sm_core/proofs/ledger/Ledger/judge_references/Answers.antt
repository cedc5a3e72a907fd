use Rattle.std.proofs.Common.{◌≡◌, ◌+◌, ◌∷◌, [], ◌++◌, drop, get_or, rules}
use Rattle.std.proofs.lemmas.List.{drop_all, drop_more}
use Rattle.std.proofs.lemmas.Result.{err_from_is_err_and}
use Rattle.sm_values.specs.declared.number.ObjRef.TheVariants.{Own}
use Rattle.sm_history.specs.Histories.{effects_of}
use Rattle.sm_history.specs.Records.{moment_of}
use Rattle.sm_core.proofs.CallChecks.{halts_left, left_behind, names_on, all_named}
use Rattle.sm_core.proofs.ledger.Ledger.judge_references.Goals as goal

pub returns-in_err-node : goal.returns-in_err-node
returns-in_err-node c =
    let m = moment_of c.args.self.now.book.history in
    let d = effects_of c.args.self.now.book.history in
    let i = c.loop-obj.obj-index in
    let rs = c.args.refs.now in
    let p = err_from_is_err_and c.from_residual.result c.from_residual.ensures.1 in
    rw (p.1, p.2) (halts_left m _ _ _ d c.args.row.now.id c.args.receiver rs (drop i rs) (drop (i + 1) rs) (get_or rs
    i (Own 0)) c.in_err-node.field-0.0 c.loop-obj.invariant.passed (drop_more rs i (Own 0) c.loop-obj-test.true)
    c.in_err-node.ensures)

pub loop-obj-preserved : goal.loop-obj-preserved
loop-obj-preserved c =
    let m = moment_of c.args.self.now.book.history in
    let d = effects_of c.args.self.now.book.history in
    let k = c.args.row.now.id in
    let i = c.loop-obj.obj-index in
    let rs = c.args.refs.now in
    let r = get_or rs i (Own 0) in
    let left = drop_more rs i (Own 0) c.loop-obj-test.true in
    let more : c.push.new.self.items ≡ c.loop-obj.named.items ++ c.in_ok-node.node ∷ [] = search rules in
    record {
      passed = left_behind m _ _ _ d k c.args.receiver rs (drop i rs) (drop (i + 1) rs) r
          c.loop-obj.invariant.passed left c.in_ok-node.ensures.0;
      names = names_on d k rs (drop i rs) (drop (i + 1) rs) r c.in_ok-node.node c.loop-obj.named.items
          c.push.new.self.items c.loop-obj.invariant.names left more c.in_ok-node.ensures.1.0
          c.in_ok-node.ensures.1.1;
      many = search rules;
    }

pub returns : goal.returns
returns c =
    let m = moment_of c.args.self.now.book.history in
    let d = effects_of c.args.self.now.book.history in
    let left = drop c.loop-obj.obj-index c.args.refs.now in
    all_named m _ _ d c.args.row.now.id c.args.receiver c.args.refs.now left c.loop-obj.named.items
    c.loop-obj.invariant.passed c.loop-obj.invariant.names
    (drop_all c.loop-obj.obj-index c.args.refs.now c.loop-obj-test.false)
