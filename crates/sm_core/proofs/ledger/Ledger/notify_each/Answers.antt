use Rattle.std.proofs.Common.{◌≡◌, ◌+◌, ◌∙◌, refl, sym, drop, length, arith, rules}
use Rattle.std.proofs.lemmas.Bool.Decides.{nat_tests}
use Rattle.std.proofs.lemmas.List.{nil_from_length}
use Rattle.std.proofs.lemmas.List.Elements.{All-drop}
use Rattle.sm_history.specs.declared.effect.Watch.{Watch}
use Rattle.sm_history.specs.Clients.{is_live}
use Rattle.sm_history.specs.Histories.{effects_of}
use Rattle.sm_history.specs.Following.{followed}
use Rattle.sm_history.specs.Records.{moment_of}
use Rattle.sm_core.proofs.NotifyingAll.{records_further, live_further, notices_further, after_further}
use Rattle.sm_core.proofs.ListSteps.{rest_from}
use Rattle.sm_core.proofs.NotifyingDrafts.{none_notified, none_told}
use Rattle.sm_core.specs.Tables.{IsLabel}
use Rattle.sm_core.proofs.ledger.Ledger.notify_each.Goals as goal

pub notify-requires-clause-live : goal.notify-requires-clause-live
notify-requires-clause-live c =
    let d = effects_of c.args.self.now.book.history in
    (live_further (λ (w : Watch). is_live d w.client) (drop c.loop-watch.watch-index c.args.watches.now)
    (drop (c.loop-watch.watch-index + 1) c.args.watches.now) c.watch-item.result
    (rest_from c.args.watches.now c.loop-watch.watch-index c.watch-item.result c.watch-item.is c.loop-watch-test.true)
    c.loop-watch.invariant.live).0

pub loop-watch-init : goal.loop-watch-init
loop-watch-init c =
    let d = effects_of c.args.self.now.book.history in
    record {
      live = c.requires.live;
      labels = c.requires.label;
      notifications = none_notified d c.args.node c.args.draft.now c.new-rooms.result c.requires.before
          c.new-rooms.ensures;
      notices = rw c.in_ok-notices.ensures.items refl;
      after = refl;
      told = refl;
      records = refl;
    }

pub loop-watch-preserved : goal.loop-watch-preserved
loop-watch-preserved c =
    let h = c.args.self.now.book.history in
    let d = effects_of h in
    let ws = c.args.watches.now in
    let i = c.loop-watch.watch-index in
    let w = c.watch-item.result in
    let before = followed d c.loop-watch.draft.effects.items in
    let now = followed d c.notify.new.draft.effects.items in
    let is = rest_from ws i w c.watch-item.is c.loop-watch-test.true in
    let on = c.in_ok-notice.ensures.1 in
    record {
      live = (live_further (λ (w : Watch). is_live d w.client) (drop i ws) (drop (i + 1) ws) w is
          c.loop-watch.invariant.live).1;
      labels = All-drop (λ (w : Watch). IsLabel d w.name c.args.label) (i + 1) ws c.requires.label;
      notifications = on.notifications;
      notices = notices_further before now c.args.node (drop i ws) (drop (i + 1) ws) w c.loop-watch.notices.items
          c.push.new.self.items _ c.in_ok-notice.notice is c.in_ok-notice.ensures.0 on.after (search rules)
          c.loop-watch.invariant.notices;
      after = after_further before now c.args.node (drop i ws) (drop (i + 1) ws) w _ is on.after
          c.loop-watch.invariant.after;
      told = records_further (moment_of h) before now c.args.node (drop i ws) (drop (i + 1) ws) w
          c.loop-watch.draft.told.items c.notify.new.draft.told.items _ is on.told on.after
          c.loop-watch.invariant.told;
      records = on.records ∙ c.loop-watch.invariant.records;
    }

pub returns-then-is_empty : goal.returns-then-is_empty
returns-then-is_empty c =
    let h = c.args.self.now.book.history in
    let ws = c.args.watches.now in
    let none = sym c.is_empty.ensures ∙ c.if-is_empty.true in
    let zero : length ws ≡ 0 = grind (arith, nat_tests) in
    none_told (moment_of h) (effects_of h) c.args.node ws c.args.draft.now c.new.result.items
    (nil_from_length ws zero) c.new.ensures.items c.requires.before
