use Rattle.std.proofs.Common.{rules, ◌≡◌, ℕ, List, true, false, refl, subst}
use Rattle.sm_core.specs.Managed.{ring_after, step_leaves}
use Rattle.sm_history.specs.declared.by.By.{By}
use Rattle.sm_history.specs.declared.event.Event.{Event}
use Rattle.sm_history.specs.declared.records.Record.{Record}
use Rattle.sm_history.specs.declared.reply.Reply.{Reply}
use Rattle.sm_history.specs.PossibleReplies.{moves}
use Rattle.sm_history.specs.Steps.{Steps}
use Rattle.sm_history.specs.Tokens.{Knows, turn}
use Rattle.sm_history.proofs.Submitting.{submitted, unseen}
use Rattle.sm_door.specs.Locked.{Locked}
use Rattle.sm_door.proofs.Logging.{logged, logged_unseen}
use Rattle.sm_door.proofs.locked_manager.LockedManager.act.Goals as goal

-- One step, at a turn.
abbrev IsStep : Locked → Locked → Event → Reply → List Record → By → ℕ → Type 0
IsStep old new e r log by t =
    Steps old.book by t e r new.book × (new.ring ≡ ring_after old.ring old.book by t e r)
    × (log ≡ step_leaves old.book by t e r)

-- The step is that of the actor at its turn.
of_actor : (old new : Locked) (e : Event) (r : Reply) (log : List Record) {k m : Knows} {t : ℕ} → k ≡ m → t ≡ turn m
    → IsStep old new e r log k.by t → IsStep old new e r log m.by (turn m)
of_actor old new e r log same due =
    subst (λ (x : Knows × ℕ). IsStep old new e r log x.0.by x.1) (λ i. (same i, due i))

pub returns : goal.returns
returns g c =
    let old = c.args.self.now in
    let step = c.step-reply in
    let new = step.new.self in
    let m : moves step.result.0 ≡ true = search rules in
    let s = of_actor old new c.args.event step.result.0 step.result.1.items c.me.view_is c.due.ensures.turn
    (step.ensures.answers, step.ensures.ring, step.ensures.records) in
    record {
      steps = s.0;
      ring = s.1;
      submitted = submitted old.book new.book c.args.me.now c.see.new.self c.args.event c.see.ensures
          step.result.0 m s.0;
      logged = logged old.book new.book c.args.me.now c.see.new.self c.args.event c.see.ensures step.result.1.items
          step.result.0 m s.0 s.2;
      by = c.see.ensures.grows.by;
    }

pub returns-then-not-moves : goal.returns-then-not-moves
returns-then-not-moves g c =
    let old = c.args.self.now in
    let step = c.step-reply in
    let new = step.new.self in
    let m : moves step.result.0 ≡ false = search rules in
    let s = of_actor old new c.args.event step.result.0 step.result.1.items c.me.view_is c.due.ensures.turn
    (step.ensures.answers, step.ensures.ring, step.ensures.records) in
    record {
      steps = s.0;
      ring = s.1;
      submitted = unseen old.book new.book c.args.me.now c.args.event step.result.0 m s.0;
      logged = logged_unseen old.book new.book c.args.me.now c.args.event step.result.1.items step.result.0 m s.0 s.2;
      by = refl;
    }
