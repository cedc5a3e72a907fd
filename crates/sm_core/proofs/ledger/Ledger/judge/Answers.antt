use Rattle.std.proofs.Common.{ℕ, List, [], ◌++◌, inr, refl, sym, ◌∙◌}
use Rattle.std.proofs.lemmas.Result.{err_from_is_err_and}
use Rattle.sm_history.specs.declared.by.By.{By}
use Rattle.sm_history.specs.declared.event.Event.{Event}
use Rattle.sm_history.specs.Checks.{Check}
use Rattle.sm_history.specs.Histories.{effects_of, client_of}
use Rattle.sm_history.specs.declared.refusal.Refusal.TheVariants.{JournalFull}
use Rattle.sm_history.specs.declared.reply.Reply.TheVariants.{Refused}
use Rattle.sm_history.specs.Verdict.{actor_checks, event_checks}
use Rattle.sm_core.specs.Judging.{place_check}
use Rattle.sm_core.specs.Managed.{Ledgered, moment_in}
use Rattle.sm_core.proofs.Keeping.{done_verdict, numbers_drafted}
use Rattle.sm_core.proofs.Stopping.{halts_first, halts_then, pass_both}
use Rattle.sm_core.proofs.ledger.Ledger.judge.Goals as goal

-- These are the checks of an event: on its actor, its own, and on its place.
abbrev parts : Ledgered → By → ℕ → Event → List Check × List Check × List Check
parts m by turn event = (
  actor_checks m.book.history by turn event,
  event_checks (effects_of m.book.history) (client_of by) event,
  place_check m.book.places m.book.history (client_of by) event,
)

pub returns-in_err-caller-clause-judged : goal.returns-in_err-caller-clause-judged
returns-in_err-caller-clause-judged c =
    let m = moment_in c.args.self.now in
    let old = c.args.draft.now.records.items in
    let q = parts c.args.self.now c.args.by c.args.turn c.args.event.now in
    let p = err_from_is_err_and c.from_residual.result c.from_residual.ensures.1 in
    rw (p.1, p.2) (halts_first m old old (q.0 ++ q.1) q.2 c.in_err-caller.field-0.0
    (halts_first m old old q.0 q.1 c.in_err-caller.field-0.0 (c.in_err-caller.ensures old)))

pub returns-in_err-outcome-clause-judged : goal.returns-in_err-outcome-clause-judged
returns-in_err-outcome-clause-judged c =
    let m = moment_in c.args.self.now in
    let old = c.args.draft.now.records.items in
    let q = parts c.args.self.now c.args.by c.args.turn c.args.event.now in
    let p = err_from_is_err_and c.from_residual-in_err-outcome.result c.from_residual-in_err-outcome.ensures.1 in
    rw (p.1, p.2) (halts_first m old _ (q.0 ++ q.1) q.2 c.in_err-outcome.field-0.0
    (halts_then m old old _ q.0 q.1 c.in_err-outcome.field-0.0 (c.in_ok-caller.ensures old).0
    (rw (c.in_ok-caller.ensures old).1.1 at c.in_err-outcome.ensures)))

pub returns-then-not-has_place-clause-judged : goal.returns-then-not-has_place-clause-judged
returns-then-not-has_place-clause-judged c =
    let m = moment_in c.args.self.now in
    let old = c.args.draft.now.records.items in
    let q = parts c.args.self.now c.args.by c.args.turn c.args.event.now in
    halts_then m old _ _ (q.0 ++ q.1) q.2 (Refused JournalFull)
    (pass_both m old old _ q.0 q.1 (c.in_ok-caller.ensures old).0
    (rw (c.in_ok-caller.ensures old).1.1 at c.in_ok-outcome.ensures.0))
    (inr (rw (sym c.has_place.ensures ∙ c.if-not-has_place.true) refl))

pub returns-clause-judged : goal.returns-clause-judged
returns-clause-judged c =
    let m = moment_in c.args.self.now in
    let old = c.args.draft.now.records.items in
    let q = parts c.args.self.now c.args.by c.args.turn c.args.event.now in (
      pass_both m old _ _ (q.0 ++ q.1) q.2
          (pass_both m old old _ q.0 q.1 (c.in_ok-caller.ensures old).0
          (rw (c.in_ok-caller.ensures old).1.1 at c.in_ok-outcome.ensures.0))
          (rw (sym c.has_place.ensures ∙ c.if-not-has_place.false) refl),
      rw (c.in_ok-caller.ensures old).1.1 at c.in_ok-outcome.ensures.1,
    )

pub judge_event-requires-clause-theirs : goal.judge_event-requires-clause-theirs
judge_event-requires-clause-theirs c = let it = c.in_ok-caller.ensures [] in rw it.1.1 it.1.0

pub judge_event-requires-clause-row : goal.judge_event-requires-clause-row
judge_event-requires-clause-row c = (c.in_ok-caller.ensures []).1.2

pub has_place-requires-clause-effects : goal.has_place-requires-clause-effects
has_place-requires-clause-effects c =
    rw c.as_slice.ensures.value (rw (c.in_ok-caller.ensures []).1.1 at c.in_ok-outcome.ensures.1.effects)

pub returns-clause-numbers : goal.returns-clause-numbers
returns-clause-numbers c =
    let b = c.args.self.now.book in
    let made = (returns-clause-judged c).1 in
    rw (← c.self.view_is) (numbers_drafted b c.self.inside.state c.self.inside.turns c.args.by c.args.turn
    c.args.event.now _ c.in_ok-outcome.outcome (rw (← c.self.view_is) c.self.invariant)
    (done_verdict b.places b.history c.args.by c.args.turn c.args.event.now _ _ c.in_ok-outcome.outcome
    (returns-clause-judged c).0 made.outcome) made)

pub returns-in_err-caller-clause-lawful : goal.returns-in_err-caller-clause-lawful
returns-in_err-caller-clause-lawful c = rw (← c.self.view_is) c.self.invariant.lawful

pub returns-in_err-outcome-clause-lawful : goal.returns-in_err-outcome-clause-lawful
returns-in_err-outcome-clause-lawful c = rw (← c.self.view_is) c.self.invariant.lawful

pub returns-then-not-has_place-clause-lawful : goal.returns-then-not-has_place-clause-lawful
returns-then-not-has_place-clause-lawful c = rw (← c.self.view_is) c.self.invariant.lawful

pub returns-clause-lawful : goal.returns-clause-lawful
returns-clause-lawful c = rw (← c.self.view_is) c.self.invariant.lawful
