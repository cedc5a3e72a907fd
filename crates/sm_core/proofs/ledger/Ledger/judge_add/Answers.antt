use Rattle.std.proofs.Common.{rules}
use Rattle.std.proofs.lemmas.Result.{err_from_is_err_and}
use Rattle.sm_history.specs.Histories.{effects_of, service}
use Rattle.sm_history.specs.Records.{moment_of}
use Rattle.sm_history.specs.Sound.{Sound}
use Rattle.sm_history.specs.Verdict.{naming_checks}
use Rattle.sm_core.specs.declared.draft.Draft.{Draft}
use Rattle.sm_core.proofs.Adding.{halts_at_reference, halts_behind, all_pass_behind, naming_is}
use Rattle.sm_core.proofs.NotifyingDrafts.{precede_adds, add_drafted}
use Rattle.sm_core.proofs.ledger.Ledger.judge_add.Goals as goal

pub returns-in_err-node : goal.returns-in_err-node
returns-in_err-node c =
    let m = moment_of c.args.self.now.book.history in
    let d = effects_of c.args.self.now.book.history in
    let k = c.args.row.now.id in
    let pass = c.in_ok-reference.ensures in
    let p = err_from_is_err_and c.from_residual-in_err-node.result c.from_residual-in_err-node.ensures.1 in
    rw (p.1, p.2) (halts_behind m _ _ _ _ d k c.args.obj _ (naming_checks d k c.args.name.now c.args.obj)
    c.in_err-node.field-0.0
    (search rules) pass.0 (naming_is m _ _ d k c.args.name.now c.args.obj c.in_ok-reference.reference pass.0 pass.1)
    c.in_err-node.ensures)

pub returns-in_err-reference : goal.returns-in_err-reference
returns-in_err-reference c =
    let m = moment_of c.args.self.now.book.history in
    let d = effects_of c.args.self.now.book.history in
    let p = err_from_is_err_and c.from_residual-in_err-reference.result c.from_residual-in_err-reference.ensures.1 in
    rw (p.1, p.2) (halts_at_reference m _ _ _ d c.args.row.now.id c.args.obj _ c.in_err-reference.field-0.0
    (search rules) c.in_err-reference.ensures)

pub notify_all-requires-clause-before : goal.notify_all-requires-clause-before
notify_all-requires-clause-before c =
    let d = effects_of c.args.self.now.book.history in
    let sound : Sound d = rw (← c.self.view_is) c.self.invariant.stands.sound in
    precede_adds d c.in_ok-node.node _ c.in_ok-copy.copy
    (service c.args.row.now.id c.in_ok-node.node c.args.allow_isolated c.args.dump) sound
    c.in_ok-node.ensures.1.1 (search rules)

pub returns : goal.returns
returns c =
    let m = moment_of c.args.self.now.book.history in
    let d = effects_of c.args.self.now.book.history in
    let k = c.args.row.now.id in
    let old = c.args.draft.now in
    let mid : Draft = record old {
      effects = c.add_effect.new.effects;
      records = c.judge_service.new.notes;
      near = c.digest-digest.result;
    } in
    let pass = c.in_ok-reference.ensures in (
      all_pass_behind m _ _ _ _ d k c.args.obj _ (naming_checks d k c.args.name.now c.args.obj) (search rules) pass.0
          (naming_is m _ _ d k c.args.name.now c.args.obj c.in_ok-reference.reference pass.0 pass.1)
          (search rules),
      add_drafted c.args.self.now.book.history k c.args.name.now c.in_ok-copy.copy c.args.obj
          c.args.allow_isolated c.args.dump c.in_ok-reference.reference c.in_ok-node.node mid _ _
          pass.1 c.in_ok-node.ensures.1.0 c.in_ok-copy.ensures.cases
          (rw c.requires.blank.0 at c.in_ok-add_effect.ensures) c.requires.blank.1 (search rules),
    )
