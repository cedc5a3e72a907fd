use Rattle.std.proofs.Common.{◌++◌, ◌∷◌, [], ap, sym, ◌∙◌, refl}
use Rattle.sm_inbox.specs.Rows.{waiting_in}
use Rattle.sm_history.proofs.ClientRows.{row_read, row_written}
use Rattle.sm_inbox.proofs.RowLemmas.{room_others, open_written}
use Rattle.sm_inbox.proofs.Tracked.{tracks_delivers}
use Rattle.sm_history.proofs.OnceRows.{once_written}
use Rattle.sm_inbox.proofs.inboxes.Inboxes.put_if_room.Goals as goal

pub returns-clause-tracks : goal.returns-clause-tracks
returns-clause-tracks c d tr live =
    let rows = c.args.self.now.rows.items in
    let at = rw c.deref.ensures.value at c.in-Some.ensures in
    let there = row_read _ rows c.args.client c.in-Some.i c.index_mut-row.result.now at c.index_mut-row.ensures.value in
    tracks_delivers d rows _ c.args.client _ c.args.delivery
    (row_written _ rows c.args.client c.in-Some.i c.index_mut-row.result.now _ at c.index_mut-row.ensures.value refl)
    (c.push_back_reserved.ensures.items ∙ sym (ap (λ o. waiting_in o ++ c.args.delivery ∷ []) there)) live tr

pub returns-clause-others : goal.returns-clause-others
returns-clause-others c k f =
    let rows = c.args.self.now.rows.items in
    let at = rw c.deref.ensures.value at c.in-Some.ensures in
    room_others _ _ c.args.client _
    (row_written _ rows c.args.client c.in-Some.i c.index_mut-row.result.now _ at c.index_mut-row.ensures.value
    refl) k f

pub returns-clause-still : goal.returns-clause-still
returns-clause-still c =
    let at = rw c.deref.ensures.value at c.in-Some.ensures in
    open_written c.args.self.now.rows.items c.args.client c.in-Some.i c.index_mut-row.result.now _ at
    c.index_mut-row.ensures.value refl

pub invariant_of-self-2 : goal.invariant_of-self-2
invariant_of-self-2 c = record {
  once = once_written _ c.args.self.now.rows.items c.in-Some.i c.index_mut-row.result.now _
      c.index_mut-row.ensures.value
      refl c.args.self.now.once;
}
