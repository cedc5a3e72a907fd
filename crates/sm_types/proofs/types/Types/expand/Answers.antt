use Rattle.sm_types.proofs.Accepted.{declared_type}
use Rattle.sm_types.proofs.types.Types.expand.Goals as goal

pub returns-clause-denoted : goal.returns-clause-denoted
returns-clause-denoted c policy is i h = rw (declared_type policy c.args.self.now i is h)
    ((rw c.self.view_is at c.in_ok-row.ensures.denoted) policy is i h)
