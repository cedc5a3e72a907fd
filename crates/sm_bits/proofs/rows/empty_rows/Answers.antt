use Rattle.sm_bits.proofs.EmptyRows.{empty_none, empty_more}
use Rattle.sm_bits.proofs.rows.empty_rows.Goals as goal

pub loop-init : goal.loop-init
loop-init c = rw c.new-rows.ensures.items (empty_none _)

pub loop-preserved : goal.loop-preserved
loop-preserved c = empty_more c.loop.rows.items c.push.new.self.items c.in_ok-row.row c.loop.counter _
    c.in_ok-push.ensures.items c.in_ok-row.ensures.room c.in_ok-row.ensures.none c.loop.invariant
