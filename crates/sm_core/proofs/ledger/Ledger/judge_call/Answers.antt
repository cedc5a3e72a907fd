use Rattle.std.proofs.Common.{◌∙◌, sym}
use Rattle.std.proofs.lemmas.Result.{err_from_is_err_and}
use Rattle.sm_history.specs.Histories.{effects_of}
use Rattle.sm_history.specs.Records.{moment_of}
use Rattle.sm_history.specs.Sound.{Sound}
use Rattle.sm_core.proofs.CallChecks.{references_halt, room_halts}
use Rattle.sm_core.proofs.CallEffects.{call_judged}
use Rattle.sm_core.proofs.ledger.Ledger.judge_call.Goals as goal

pub returns-in_err-judge_references : goal.returns-in_err-judge_references
returns-in_err-judge_references c =
    let target = c.in_ok-target.ensures in
    let m = moment_of c.args.self.now.book.history in
    let d = effects_of c.args.self.now.book.history in
    let p = err_from_is_err_and c.from_residual-in_err-judge_references.result
    c.from_residual-in_err-judge_references.ensures.1 in
    rw (p.1, p.2) (references_halt m _ _ _ d c.args.row.now.id c.args.handle c.in_ok-target.target c.args.refs.now
    c.in_err-judge_references.field-0.0 target.0 target.1.0
    (rw c.list.ensures.value at c.in_err-judge_references.ensures))

pub returns-then-not-has_room : goal.returns-then-not-has_room
returns-then-not-has_room c =
    let m = moment_of c.args.self.now.book.history in
    let d = effects_of c.args.self.now.book.history in
    let target = c.in_ok-target.ensures in
    let refs = rw c.list.ensures.value at c.in_ok-judge_references.ensures in
    let sound : Sound d = rw (← c.self.view_is) c.self.invariant.stands.sound in
    let full = rw (c.foreign-count.ensures.foreign, c.as_slice.ensures.value)
    at (sym c.has_room.ensures.room ∙ c.if-not-has_room.true) in
    rw c.failed.ensures (room_halts m _ _ _ d c.args.row.now.id c.args.handle c.in_ok-target.target c.args.refs.now
    c.judge_references.new.named.items target.0 target.1.0 sound target.1.1 refs.1 refs.0 full)

pub send-requires-clause-numbers : goal.send-requires-clause-numbers
send-requires-clause-numbers c =
    c.as_slice-numbers.ensures.value ∙ c.has_room.ensures.numbers c.if-not-has_room.false

pub returns : goal.returns
returns c =
    let d = effects_of c.args.self.now.book.history in
    let target = c.in_ok-target.ensures in
    let refs = rw c.list.ensures.value at c.in_ok-judge_references.ensures in
    let sound : Sound d = rw (← c.self.view_is) c.self.invariant.stands.sound in
    let room = rw (c.foreign-count.ensures.foreign, c.as_slice.ensures.value)
    at (sym c.has_room.ensures.room ∙ c.if-not-has_room.false) in
    call_judged c.args.self.now.book.history _ _ _ _ c.args.row.now.id c.args.handle c.in_ok-target.target
    c.args.payload.now c.args.refs.now c.judge_references.new.named.items c.send.result target.0 target.1.0 sound
    target.1.1 refs.1 refs.0 room c.requires.blank.1 (rw c.as_slice-named.ensures.value at c.send.ensures)
