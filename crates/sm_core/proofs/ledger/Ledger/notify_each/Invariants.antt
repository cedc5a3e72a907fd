use Rattle.std.proofs.Common.{◌≡◌, ◌++◌, true, drop}
use Rattle.std.specs.List.{All, list_all}
use Rattle.sm_history.specs.Clients.{is_live}
use Rattle.sm_history.specs.Histories.{effects_of}
use Rattle.sm_history.specs.Following.{followed}
use Rattle.sm_history.specs.Notices.{notices_at, after_notices}
use Rattle.sm_history.specs.Records.{moment_of, left_by_notices}
use Rattle.sm_core.specs.Notifications.{AreNotifications}
use Rattle.sm_core.specs.Tables.{IsLabel}
use Rattle.sm_core.proofs.ledger.Ledger.notify_each.Given as goal

-- The remaining watchers are live, and notifying them has the same result.
abbrev pub invariant-loop-watch : goal.invariant-loop-watch
invariant-loop-watch l =
    let d = effects_of l.self.book.history in
    let m = moment_of l.self.book.history in
    let now = followed d l.draft.effects.items in
    let before = followed d l.initial.draft.effects.items in
    record {
      live : list_all (λ w. is_live d w.client) (drop l.watch-index l.watches) ≡ true;
      labels : All (λ w. IsLabel d w.name l.label) (drop l.watch-index l.watches);
      notifications : AreNotifications d l.node l.draft l.rooms;
      notices : l.notices.items ++ notices_at now l.node (drop l.watch-index l.watches)
          ≡ notices_at before l.node l.watches;
      after : after_notices now l.node (drop l.watch-index l.watches) ≡ after_notices before l.node l.watches;
      told : l.draft.told.items ++ left_by_notices m now l.node (drop l.watch-index l.watches)
          ≡ l.initial.draft.told.items ++ left_by_notices m before l.node l.watches;
      records : l.draft.records ≡ l.initial.draft.records;
    }
