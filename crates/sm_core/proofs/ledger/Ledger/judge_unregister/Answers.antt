use Rattle.std.proofs.Common.{rules}
use Rattle.std.proofs.lemmas.Result.{err_from_is_err_and}
use Rattle.sm_history.specs.Histories.{effects_of}
use Rattle.sm_history.specs.Records.{moment_of}
use Rattle.sm_core.proofs.Adding.{halts_behind, all_pass_behind}
use Rattle.sm_core.proofs.Unregistering.{removing, removing_is, removal_drafted}
use Rattle.sm_core.proofs.ledger.Ledger.judge_unregister.Goals as goal

pub returns-in_err-judge_removal : goal.returns-in_err-judge_removal
returns-in_err-judge_removal c =
    let m = moment_of c.args.self.now.book.history in
    let d = effects_of c.args.self.now.book.history in
    let k = c.args.row.now.id in
    let pass = c.in_ok-node.ensures in
    let p = err_from_is_err_and c.from_residual-in_err-judge_removal.result
    c.from_residual-in_err-judge_removal.ensures.1 in
    rw (p.1, p.2) (halts_behind m _ _ _ _ d k c.args.obj _ (removing d k c.args.name.now c.args.obj)
    c.in_err-judge_removal.field-0.0
    (search rules) pass.0 (removing_is m _ _ d k c.args.name.now c.args.obj c.in_ok-node.node pass.0 pass.1)
    c.in_err-judge_removal.ensures)

pub returns : goal.returns
returns c =
    let m = moment_of c.args.self.now.book.history in
    let d = effects_of c.args.self.now.book.history in
    let k = c.args.row.now.id in
    let pass = c.in_ok-node.ensures in (
      all_pass_behind m _ _ _ _ d k c.args.obj _ (removing d k c.args.name.now c.args.obj) (search rules) pass.0
          (removing_is m _ _ d k c.args.name.now c.args.obj c.in_ok-node.node pass.0 pass.1)
          c.in_ok-judge_removal.ensures,
      removal_drafted m d k c.args.name.now c.in_ok-clone.field-0 c.args.obj _ c.in_ok-clone.ensures.cases
          (search rules) (search rules),
    )
