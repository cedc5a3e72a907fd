use Rattle.std.specs.HashMap.{keys}
use Rattle.sm_core.proofs.SealedTurns.{admins_more}
use Rattle.sm_core.proofs.turns.Turns.add_admins.Goals as goal

pub loop-i-preserved : goal.loop-i-preserved
loop-i-preserved c =
    admins_more c.args.self.now (keys c.args.self.now.admins) c.loop-i.i c.admin_at-admin.result c.args.rows.now.items
    c.loop-i.rows.items c.push.new.self.items c.row_for.result c.admin_at-admin.ensures c.in_ok-push.ensures.items
    c.row_for.ensures c.loop-i.invariant
