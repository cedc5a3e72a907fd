use Rattle.std.proofs.Common.{List, subst, sym}
use Rattle.std.proofs.lemmas.Result.{IfOk-weaker}
use Rattle.std.specs.List.{All}
use Rattle.sm_history.specs.Records.{IsTrueOnce}
use Rattle.sm_history.specs.declared.records.Record.{Record}
use Rattle.sm_door.specs.Locked.{Locked}
use Rattle.sm_door.proofs.locked_manager.LockedManager.records.Goals as goal

pub returns-clause-true_records : goal.returns-clause-true_records
returns-clause-true_records g c =
    let b = c.args.self.now.book in
    let all : All (IsTrueOnce b.places b.history) c.self.inside.manager.ring =
    subst (λ (k : Locked). All (IsTrueOnce k.book.places k.book.history) c.self.inside.manager.ring)
    c.self.view_is c.lawful.ensures.records in
    IfOk-weaker c.records.result _ _
    (λ v is. subst (λ (l : List Record). All (IsTrueOnce b.places b.history) l) (sym is) all)
    c.records.ensures.all
