use Rattle.sm_core.proofs.ListedTables.{listed_more}
use Rattle.sm_core.proofs.listing.listed_clients.Goals as goal

pub loop-row-preserved : goal.loop-row-preserved
loop-row-preserved c d g i =
    listed_more d c.args.rows.now c.loop-row.row-index c.row-item.result c.loop-row.list.items c.push.new.self.items
    c.in_ok-listed_client.field-0 c.row-item.is c.loop-row-test.true c.in_ok-push.ensures.items
    (c.loop-row.invariant d g i) (c.in_ok-listed_client.ensures d g i)
