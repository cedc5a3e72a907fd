use Rattle.std.proofs.Common.{arith}
use Rattle.sm_suggestions.proofs.Tables.{lines_step}
use Rattle.sm_suggestions.proofs.tally.Tally.lines.Goals as goal

pub loop-i-preserved : goal.loop-i-preserved
loop-i-preserved c =
    lines_step c.args.self.now c.loop-i.i c.loop-i.text.items c.push_at.new.text.items (omega arith) c.loop-i.invariant
    c.in_ok-push_at.ensures
