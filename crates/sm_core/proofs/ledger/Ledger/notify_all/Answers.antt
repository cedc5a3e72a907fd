use Rattle.sm_history.proofs.AgreeNotices.{watchers_live}
use Rattle.sm_history.specs.Histories.{effects_of}
use Rattle.sm_core.proofs.WatcherLabels.{watchers_labelled}
use Rattle.sm_core.proofs.ledger.Ledger.notify_all.Goals as goal

pub notify_each-requires-clause-live : goal.notify_each-requires-clause-live
notify_each-requires-clause-live c =
    let d = effects_of c.args.self.now.book.history in
    rw (c.watchers-watches.ensures d (rw (← c.self.view_is) c.self.invariant.stands.names))
    (watchers_live d c.args.name.now)

pub notify_each-requires-clause-label : goal.notify_each-requires-clause-label
notify_each-requires-clause-label c =
    let d = effects_of c.args.self.now.book.history in
    rw (c.watchers-watches.ensures d (rw (← c.self.view_is) c.self.invariant.stands.names))
    (watchers_labelled d c.args.name.now c.args.label c.requires.label)
