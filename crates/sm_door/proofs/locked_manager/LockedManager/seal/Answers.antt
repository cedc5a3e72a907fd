use Rattle.sm_history.proofs.SealedTokens.{closes, stays_open}
use Rattle.sm_door.proofs.locked_manager.LockedManager.seal.Goals as goal

pub returns-in-Ok-clause-closed : goal.returns-in-Ok-clause-closed
returns-in-Ok-clause-closed g c =
    closes c.args.self.now.book c.close_segment.new.self.book c.args.me.now c.see.new.self c.see-in-Ok.new.self
    c.in-Ok.segment c.see.ensures c.in-Ok.ensures.seals c.see-in-Ok.ensures

pub returns-in-Err-clause-closed : goal.returns-in-Err-clause-closed
returns-in-Err-clause-closed g c =
    stays_open c.args.self.now.book c.close_segment.new.self.book c.args.me.now c.see.new.self c.in-Err.refusal
    c.see.ensures c.in-Err.ensures.seals
