use Rattle.sm_history.specs.Histories.{effects_of}
use Rattle.sm_core.proofs.NotifyingDrafts.{none_notified}
use Rattle.sm_core.proofs.ledger.Ledger.notify_one.Goals as goal

pub notify-requires-clause-notifications : goal.notify-requires-clause-notifications
notify-requires-clause-notifications c =
    none_notified (effects_of c.args.self.now.book.history) c.args.node c.args.draft.now c.new-rooms.result
    c.requires.before c.new-rooms.ensures
