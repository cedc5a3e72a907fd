use Rattle.sm_grants.proofs.Bound.{refs_bounded}
use Rattle.sm_grants.proofs.grants.Grants.count_bound.Goals as goal

pub returns : goal.returns
returns c d tr client node =
    refs_bounded d c.args.self.now.rows.items c.args.self.now.bound client node tr c.args.self.now.bounded
