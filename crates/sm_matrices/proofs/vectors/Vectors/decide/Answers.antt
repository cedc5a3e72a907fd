use Rattle.std.proofs.Common.{sym}
use Rattle.sm_types.specs.Names.{at}
use Rattle.sm_matrices.proofs.Deciding.{other_allowed, other_audited}
use Rattle.sm_matrices.proofs.vectors.Vectors.decide.Goals as goal

pub returns-in_default-clause-allowed : goal.returns-in_default-clause-allowed
returns-in_default-clause-allowed c policy names of hs ht =
    sym (other_allowed policy (at names c.args.source) (at names c.args.target) c.args.class c.args.perm
    c.in_default.ensures.none)

pub returns-in_default-clause-audited : goal.returns-in_default-clause-audited
returns-in_default-clause-audited c policy names of hs ht =
    sym (other_audited policy (at names c.args.source) (at names c.args.target) c.args.class c.args.perm
    c.in_default.ensures.none)
