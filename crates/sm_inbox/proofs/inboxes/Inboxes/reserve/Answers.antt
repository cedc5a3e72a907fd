use Rattle.std.proofs.Common.{ap, sym, ◌∙◌}
use Rattle.std.specs.Prelude.{is_some}
use Rattle.sm_history.proofs.ClientRows.{sought, none_sought, row_pushed}
use Rattle.sm_inbox.proofs.RowLemmas.{room_open, room_others, open_pushed}
use Rattle.sm_inbox.proofs.Tracked.{tracks_pushed}
use Rattle.sm_history.proofs.OnceRows.{once_pushed}
use Rattle.sm_inbox.proofs.inboxes.Inboxes.reserve.Goals as goal

pub returns-then-is_some-clause-room : goal.returns-then-is_some-clause-room
returns-then-is_some-clause-room c =
    let at = rw c.deref.ensures.value at c.inbox_index.ensures in
    let there = sym (sought _ c.args.self.now.rows.items c.args.client c.inbox_index.result at)
    ∙ sym c.is_some.ensures ∙
    c.if-is_some.true in
    room_open _ there

pub returns-clause-tracks : goal.returns-clause-tracks
returns-clause-tracks c d tr =
    let at = rw c.deref.ensures.value at c.inbox_index.ensures in
    let none = none_sought _ c.args.self.now.rows.items c.args.client c.inbox_index.result at
    (sym c.is_some.ensures ∙ c.if-is_some.false) in
    rw (c.push_reserved.ensures.items, c.reserve.ensures.items)
    (tracks_pushed d c.args.self.now.rows.items _ none c.in_ok-waiting.ensures.items tr)

pub returns-clause-room : goal.returns-clause-room
returns-clause-room c =
    let at = rw c.deref.ensures.value at c.inbox_index.ensures in
    let none = none_sought _ c.args.self.now.rows.items c.args.client c.inbox_index.result at
    (sym c.is_some.ensures ∙ c.if-is_some.false) in
    rw (c.push_reserved.ensures.items, c.reserve.ensures.items)
    (room_open _ (ap is_some (row_pushed _ c.args.self.now.rows.items _ none).own))

pub returns-clause-others : goal.returns-clause-others
returns-clause-others c k f =
    let at = rw c.deref.ensures.value at c.inbox_index.ensures in
    let none = none_sought _ c.args.self.now.rows.items c.args.client c.inbox_index.result at
    (sym c.is_some.ensures ∙ c.if-is_some.false) in
    rw (c.push_reserved.ensures.items, c.reserve.ensures.items)
    (room_others c.args.self.now.rows.items _ c.args.client _ (row_pushed _ c.args.self.now.rows.items _ none) k f)

pub returns-then-is_some-clause-opened : goal.returns-then-is_some-clause-opened
returns-then-is_some-clause-opened c =
    let at = rw c.deref.ensures.value at c.inbox_index.ensures in
    sym (sought _ c.args.self.now.rows.items c.args.client c.inbox_index.result at) ∙ sym c.is_some.ensures ∙
    c.if-is_some.true

pub returns-clause-opened : goal.returns-clause-opened
returns-clause-opened c =
    let at = rw c.deref.ensures.value at c.inbox_index.ensures in
    let none = none_sought _ c.args.self.now.rows.items c.args.client c.inbox_index.result at
    (sym c.is_some.ensures ∙ c.if-is_some.false) in
    rw (c.push_reserved.ensures.items, c.reserve.ensures.items)
    (ap is_some (row_pushed _ c.args.self.now.rows.items _ none).own)

pub returns-clause-still : goal.returns-clause-still
returns-clause-still c =
    let at = rw c.deref.ensures.value at c.inbox_index.ensures in
    let none = none_sought _ c.args.self.now.rows.items c.args.client c.inbox_index.result at
    (sym c.is_some.ensures ∙ c.if-is_some.false) in
    rw (c.push_reserved.ensures.items, c.reserve.ensures.items)
    (open_pushed c.args.self.now.rows.items _ c.args.client _ (row_pushed _ c.args.self.now.rows.items _ none))

pub invariant_of-self-2 : goal.invariant_of-self-2
invariant_of-self-2 c =
    let at = rw c.deref.ensures.value at c.inbox_index.ensures in
    let none = none_sought _ c.args.self.now.rows.items c.args.client c.inbox_index.result at
    (sym c.is_some.ensures ∙ c.if-is_some.false) in
    record {
      once = rw (c.push_reserved.ensures.items, c.reserve.ensures.items)
          (once_pushed _ c.args.self.now.rows.items _ none c.args.self.now.once);
    }
