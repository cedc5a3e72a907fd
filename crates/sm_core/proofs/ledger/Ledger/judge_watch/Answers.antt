use Rattle.std.proofs.Common.{rules, ap, ◌∙◌}
use Rattle.sm_history.specs.Histories.{effects_of}
use Rattle.sm_history.specs.Services.{service_at}
use Rattle.sm_history.specs.Sound.{Sound}
use Rattle.sm_history.specs.Records.{moment_of}
use Rattle.sm_core.specs.declared.draft.Draft.{Draft}
use Rattle.sm_core.proofs.NotifyingDrafts.{precede_watches, watch_drafted, watch_alone}
use Rattle.sm_core.proofs.ledger.Ledger.judge_watch.Goals as goal

pub notify_one-requires-clause-before : goal.notify_one-requires-clause-before
notify_one-requires-clause-before c =
    let d = effects_of c.args.self.now.book.history in
    let sound : Sound d = rw (← c.self.view_is) c.self.invariant.stands.sound in
    precede_watches d c.in-Some.service.node _ c.in_ok-made.made sound
    (rw c.in_ok-made.ensures c.requires.live)
    c.in_ok-judge_watching.ensures.1 (search rules)

pub returns : goal.returns
returns c =
    let d = effects_of c.args.self.now.book.history in
    let old = c.args.draft.now in
    let mid : Draft = record old { effects = c.add_effect.new.effects; records = c.judge_watching.new.notes } in (
      search rules,
      watch_drafted c.args.self.now.book.history c.args.row.now.id c.args.name.now c.args.object
          c.in-Some.service c.in_ok-watch.watch c.in_ok-made.made mid _ c.in_ok-notice.notice
          (c.in-Some.ensures d (rw (← c.self.view_is) c.self.invariant.stands.names)
          ∙ ap (service_at d) c.bytes.ensures)
          c.in_ok-watch.ensures c.in_ok-made.ensures (rw c.requires.blank.0 at c.in_ok-add_effect.ensures)
          c.requires.blank.1 c.in_ok-notice.ensures,
    )

pub returns-in_default : goal.returns-in_default
returns-in_default c =
    let d = effects_of c.args.self.now.book.history in
    let old = c.args.draft.now in
    let new : Draft = record old { effects = c.add_effect.new.effects; records = c.judge_watching.new.notes } in (
      c.in_ok-judge_watching.ensures.0,
      watch_alone (moment_of c.args.self.now.book.history) d c.args.row.now.id c.args.name.now c.args.object
          c.in_ok-made.made new
          (c.in_default.ensures d (rw (← c.self.view_is) c.self.invariant.stands.names)
          ∙ ap (service_at d) c.bytes.ensures) c.in_ok-made.ensures c.requires.live
          c.in_ok-judge_watching.ensures.1 c.requires.blank.1 (rw c.requires.blank.0 at c.in_ok-add_effect.ensures),
    )
