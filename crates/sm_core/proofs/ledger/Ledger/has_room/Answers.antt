use Rattle.std.proofs.Common.{sym, ◌∙◌}
use Rattle.sm_history.specs.Histories.{effects_of}
use Rattle.sm_core.proofs.ledger.Ledger.has_room.Goals as goal

pub returns-then-has_room-clause-room : goal.returns-then-has_room-clause-room
returns-then-has_room-clause-room c =
    let d = effects_of c.self.inside.journal.history in
    let inbox = sym (c.has_room.ensures d c.self.invariant.stands.inboxes) ∙ c.if-has_room.true in
    let live = rw (← c.self.view_is) at c.requires.live in
    let room = c.numbers_if_room.ensures.room d c.self.invariant.stands.grants live in
    rw (← c.self.view_is) (rw inbox room)

pub returns-then-has_room-clause-numbers : goal.returns-then-has_room-clause-numbers
returns-then-has_room-clause-numbers c = λ is.
    let d = effects_of c.self.inside.journal.history in
    let live = rw (← c.self.view_is) at c.requires.live in
    rw (← c.self.view_is) (c.numbers_if_room.ensures.numbers d c.self.invariant.stands.grants live)

pub returns-else-has_room-clause-room : goal.returns-else-has_room-clause-room
returns-else-has_room-clause-room c =
    let d = effects_of c.self.inside.journal.history in
    let inbox = sym (c.has_room.ensures d c.self.invariant.stands.inboxes) ∙ c.if-has_room.false in
    rw (← c.self.view_is) (rw inbox c.if-has_room.false)
