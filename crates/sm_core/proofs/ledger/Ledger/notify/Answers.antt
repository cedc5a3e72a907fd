use Rattle.std.proofs.Common.{refl, ap, sym, ◌∙◌, [], ◌∷◌, ◌++◌}
use Rattle.std.specs.Global.{Vec}
use Rattle.sm_history.specs.declared.delivery.Delivery.{Delivery}
use Rattle.sm_history.specs.declared.effect.Effect.TheVariants.{Delivers}
use Rattle.sm_history.specs.declared.records.Record.{Record}
use Rattle.sm_history.specs.Notices.{notice}
use Rattle.sm_core.specs.Notifications.{gives_of}
use Rattle.sm_core.specs.declared.draft.Draft.{Draft}
use Rattle.sm_core.proofs.NotifyingOne.{tells, tells_not}
use Rattle.sm_core.proofs.ledger.Ledger.notify.Goals as goal

pub returns-in_ok-told-in-Ok : goal.returns-in_ok-told-in-Ok
returns-in_ok-told-in-Ok c =
    let w = c.args.watch.now in
    let told = c.in_ok-told-in-Ok.ensures in
    let it = tells c.args.self.now.book.history c.args.node w c.args.draft.now c.tell.new.draft
    c.args.rooms.now c.tell.new.rooms c.judge_told.new.notes.items c.left-left.result c.in-Ok.given
    c.in_ok-told-in-Ok.told c.requires.notifications c.requires.live c.left-left.ensures c.in-Ok.ensures.0
    (ap (λ (v : Vec Record). v.items) told.same.0) told.same.1 c.in-Ok.ensures.1 told.told
    (told.effects
    ∙ ap (λ (x : Delivery).
    (c.args.draft.now.effects.items ++ gives_of w.client c.args.node c.in-Ok.given) ++ Delivers w.client x ∷ [])
    (sym told.told))
    told.left in
    (c.notice.ensures ∙ ap (notice w) it.0, it.1)

pub returns-in_ok-reason-in-Err : goal.returns-in_ok-reason-in-Err
returns-in_ok-reason-in-Err c =
    let w = c.args.watch.now in
    let old = c.args.draft.now in
    let new : Draft = record old { told = c.judge_told.new.notes } in
    let it = tells_not c.args.self.now.book.history c.args.node w old new c.args.rooms.now c.left-left.result
    c.in-Err.reply c.in_ok-reason-in-Err.field-0 refl refl c.requires.notifications c.requires.live
    c.left-left.ensures c.in-Err.ensures c.in_ok-reason-in-Err.ensures.1 c.in_ok-reason-in-Err.ensures.0 in
    (c.notice-in-Err.ensures ∙ ap (notice w) it.0, it.1)
