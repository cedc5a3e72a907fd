use Rattle.std.proofs.Common.{rules}
use Rattle.sm_types.proofs.Accepted.{declared_type}
use Rattle.sm_types.proofs.types.Types.only_attribute.Goals as goal

pub returns-clause-denoted : goal.returns-clause-denoted
returns-clause-denoted c policy is i h = rw (declared_type policy c.args.self.now i is h)
    (search (rules, c.in_ok-a.ensures.denoted))
