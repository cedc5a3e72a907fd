use Rattle.std.proofs.Common.{◌≡◌, ◌∙◌, None, ap, sym}
use Rattle.std.specs.List.{find}
use Rattle.sm_history.specs.Tables.{IsPlace}
use Rattle.sm_history.proofs.ClientRows.{row_pushed}
use Rattle.sm_history.proofs.OnceRows.{once_pushed, once_written}
use Rattle.sm_core.specs.declared.inbox_rooms.InboxRoom.{InboxRoom}
use Rattle.sm_core.proofs.RoomRows.{client, is_of, left_changed, up_pushed, up_written}
use Rattle.sm_core.proofs.inbox_rooms.InboxRooms.set.Goals as goal

pub returns-in_ok-push-in-None : goal.returns-in_ok-push-in-None
returns-in_ok-push-in-None c =
    let rows = c.args.self.now.rows.items in
    let row : InboxRoom = record { client = c.args.client; left = c.args.left } in
    let none : find (is_of c.args.client) rows ≡ None = rw (← c.deref.ensures.value) c.in-None.ensures in
    rw c.in_ok-push-in-None.ensures.items
    (left_changed rows _ c.args.client row (row_pushed client rows row none))

pub invariant_of-self-in-None : goal.invariant_of-self-in-None
invariant_of-self-in-None c =
    let rows = c.args.self.now.rows.items in
    let row : InboxRoom = record { client = c.args.client; left = c.args.left } in
    let none : find (is_of c.args.client) rows ≡ None = rw (← c.deref.ensures.value) c.in-None.ensures in
    rw (c.in_ok-push-in-None.ensures.items, c.max-self.ensures) record {
      once = once_pushed client rows row none c.args.self.now.once;
      newer = up_pushed rows row c.args.self.now.newest c.args.self.now.newer;
    }

pub invariant_of-self : goal.invariant_of-self
invariant_of-self c =
    let rows = c.args.self.now.rows.items in
    let row : InboxRoom = record { client = c.args.client; left = c.args.left } in
    let at : IsPlace client rows c.args.client c.in-Some.i = rw (← c.deref.ensures.value) c.in-Some.ensures in
    let old = c.index_mut.result.now in
    record {
      once = once_written client rows c.in-Some.i old row c.index_mut.ensures.value
          (sym (ap client c.index_mut.ensures.value ∙ at.own old)) c.args.self.now.once;
      newer = up_written rows c.in-Some.i c.args.self.now.newest row row (sym (at.own row)) c.args.self.now.newer;
    }
