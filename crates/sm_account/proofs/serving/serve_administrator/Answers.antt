use Rattle.sm_history.proofs.BookOrder.{book_itself}
use Rattle.sm_account.proofs.Staying.{one_more}
use Rattle.sm_account.proofs.serving.serve_administrator.Goals as goal

-- The connection is a part of what the token has seen at its end.
pub new-requires : goal.new-requires
new-requires g c =
    let parts = c.into_parts-admin.ensures in
    let before = c.of-before.ensures in
    let after = c.of-after.ensures in
    let first = c.into_parts-admin.result.0 in
    let last = c.serve_administrator-admin.result.0 in
    let served = c.serve_administrator-admin.ensures.attends in
    let goes_on = c.serve_administrator-admin.ensures.goes_on in
    rw (
      c.add.ensures,
      before.token,
      before.reader,
      before.writer,
      before.sink,
      after.token,
      after.reader,
      after.writer,
      after.sink,
    ) (one_more first.seen last.seen _ _ parts.parts goes_on.begins
    (record { served = served; goes_on = goes_on; begins = book_itself last.seen }))
