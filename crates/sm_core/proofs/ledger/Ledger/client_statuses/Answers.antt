use Rattle.sm_core.specs.Statuses.{row_status}
use Rattle.sm_core.proofs.Statuses.{told_more}
use Rattle.sm_core.proofs.ledger.Ledger.client_statuses.Goals as goal

pub loop-row-preserved : goal.loop-row-preserved
loop-row-preserved c =
    told_more (row_status c.args.self.now.book.history) c.args.rows.now c.loop-row.row-index c.row-item.result
    c.loop-row.statuses.items c.push.new.self.items c.in_ok-client_status.field-0 c.row-item.is c.loop-row-test.true
    c.in_ok-push.ensures.items c.loop-row.invariant c.in_ok-client_status.ensures
