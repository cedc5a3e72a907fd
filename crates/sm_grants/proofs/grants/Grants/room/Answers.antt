use Rattle.sm_grants.proofs.NewObjects.{room_is}
use Rattle.sm_grants.proofs.grants.Grants.room.Goals as goal

pub returns : goal.returns
returns c d tr live =
    room_is d c.args.self.now.rows.items c.args.client c.args.nodes.now c.len_of.result c.count_new.result tr live
    c.len_of.ensures.is c.len_of.ensures.most c.count_new.ensures
