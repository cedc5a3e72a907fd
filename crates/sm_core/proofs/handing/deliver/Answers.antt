use Rattle.std.proofs.Common.{◌∙◌, ap, length}
use Rattle.std.specs.Prelude.{◌-◌}
use Rattle.sm_history.specs.declared.delivery.Delivery.{Delivery}
use Rattle.sm_history.specs.Inboxes.{inbox_at}
use Rattle.sm_inbox.specs.Rows.{inbox_of}
use Rattle.sm_inbox.proofs.RowLemmas.{room_open}
use Rattle.sm_core.proofs.HandedOver.{has_room}
use Rattle.sm_core.proofs.handing.deliver.Goals as goal

pub returns-clause-tracks : goal.returns-clause-tracks
returns-clause-tracks c = λ d t live room here.
    let waits = ap (length {A = Delivery}) (t.queues c.args.client) in
    let left = room_open (inbox_of c.args.inboxes.now.rows.items c.args.client) here ∙ ap (λ n. 256 - n) waits in
    let may = c.put_if_room.ensures.may.1 (has_room _ (length (inbox_at d c.args.client)) left room) in
    rw may at c.put_if_room.ensures.tracks d t live
