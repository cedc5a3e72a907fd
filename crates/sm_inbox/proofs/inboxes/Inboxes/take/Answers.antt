use Rattle.std.proofs.Common.{refl}
use Rattle.sm_inbox.proofs.RowLemmas.{room_kept, popped, open_written}
use Rattle.sm_inbox.proofs.Tracked.{tracks_popped}
use Rattle.sm_history.proofs.OnceRows.{once_written}
use Rattle.sm_inbox.proofs.inboxes.Inboxes.take.Goals as goal

pub returns-clause-taken : goal.returns-clause-taken
returns-clause-taken c d tr =
    let at = rw c.deref.ensures.value at c.in_ok-i.ensures in
    let old = c.index_mut-row.result.now.waiting in
    tracks_popped d c.args.self.now.rows.items c.args.client c.in_ok-i.i c.index_mut-row.result.now _
    c.pop_front.result at c.index_mut-row.ensures.value refl
    (popped old.items c.pop_front.new.self.items old.len c.pop_front.result old.ok.0 c.pop_front.ensures.variant
    c.pop_front.ensures.items) tr

pub returns-clause-room : goal.returns-clause-room
returns-clause-room c =
    let at = rw c.deref.ensures.value at c.in_ok-i.ensures in
    room_kept c.args.self.now.rows.items c.args.client c.in_ok-i.i c.index_mut-row.result.now _ at
    c.index_mut-row.ensures.value refl c.pop_front.ensures.rest

pub returns-clause-still : goal.returns-clause-still
returns-clause-still c =
    let at = rw c.deref.ensures.value at c.in_ok-i.ensures in
    open_written c.args.self.now.rows.items c.args.client c.in_ok-i.i c.index_mut-row.result.now _ at
    c.index_mut-row.ensures.value refl

pub invariant_of-self : goal.invariant_of-self
invariant_of-self c = record {
  once = once_written _ c.args.self.now.rows.items c.in_ok-i.i c.index_mut-row.result.now _
      c.index_mut-row.ensures.value
      refl c.args.self.now.once;
}
