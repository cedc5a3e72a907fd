use Rattle.std.proofs.Common.{subst}
use Rattle.sm_history.specs.declared.query.Query.TheVariants.{Explain}
use Rattle.sm_history.specs.Promises.{Queried}
use Rattle.sm_history.specs.Tokens.{Knows}
use Rattle.sm_door.proofs.door.Door.explain.Goals as goal

pub returns : goal.returns
returns g c =
    let query = Explain c.args.source c.args.target c.args.class c.args.perm in
    subst (λ (k : Knows). Queried k c.read.new.self query c.read.result) c.me.view_is c.read.ensures
