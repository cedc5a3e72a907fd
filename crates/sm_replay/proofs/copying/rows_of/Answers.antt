use Rattle.std.proofs.Common.{refl, ◌∙◌}
use Rattle.sm_replay.proofs.SameTables.{copied_more}
use Rattle.sm_replay.proofs.copying.rows_of.Goals as goal

pub loop-row-preserved : goal.loop-row-preserved
loop-row-preserved c =
    copied_more c.args.rows.now c.loop-row.copies.items c.push.new.self.items c.loop-row.row-index c.row-item.result _
    c.loop-row-test.true c.row-item.is c.loop-row.invariant c.in_ok-push.ensures.items refl c.in_ok-clone.ensures.cases
    (c.in_ok-held.ensures ∙ c.deref.ensures.value) (c.in_ok-waiting.ensures ∙ c.deref-in-loop-row.ensures.value)
