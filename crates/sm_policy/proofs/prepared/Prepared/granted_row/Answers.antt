use Rattle.sm_types.specs.Denoting.{types}
use Rattle.sm_policy.specs.Policy.{allowed}
use Rattle.sm_policy.proofs.prepared.Prepared.granted_row.Goals as goal

pub returns-clause-allowed : goal.returns-clause-allowed
unfolding allowed
returns-clause-allowed c hs t ht b lt =
    let policy = c.args.self.now.statements in
    let of = rw c.parts.ensures.typed.types at c.parts.ensures.tabled in
    c.in_ok-row.ensures.allowed policy (types policy) of hs t b ht lt

pub returns-clause-no_source : goal.returns-clause-no_source
returns-clause-no_source c ge =
    let of = rw c.parts.ensures.typed.types at c.parts.ensures.tabled in
    c.in_ok-row.ensures.no_source (rw of.count ge)
