use Rattle.std.proofs.Common.{rules}
use Rattle.sm_history.proofs.BookOrder.{book_itself}
use Rattle.sm_connection.specs.Connections.{GoesOn}
use Rattle.sm_account.proofs.Staying.{one_more}
use Rattle.sm_account.proofs.serving.serve_client.Goals as goal

-- The connection is a part of what the slot has seen at its end.
pub new-requires : goal.new-requires
new-requires g c =
    let parts = c.into_parts-seat.ensures in
    let before = c.of-before.ensures in
    let after = c.of-after.ensures in
    let first = c.into_parts-seat.result.0 in
    let last = c.unwrap-slot.result in
    let served = rw c.unwrap-slot.ensures at c.serve_client-slot.ensures.attends in
    let goes_on : GoesOn first last = search (rules, c.serve_client-slot.ensures.goes_on, c.unwrap-slot.ensures) in
    rw (
      c.add.ensures,
      before.token,
      before.reader,
      before.writer,
      before.sink,
      after.token,
      after.reader,
      after.writer,
      after.sink,
    ) (one_more first.seen last.seen _ _ parts.parts goes_on.begins
    (record { served = served; goes_on = goes_on; begins = book_itself last.seen }))
