use Rattle.std.proofs.Common.{subst}
use Rattle.sm_history.specs.declared.query.Query.TheVariants.{List as ListNames}
use Rattle.sm_history.specs.Promises.{Queried}
use Rattle.sm_history.specs.Tokens.{Knows}
use Rattle.sm_door.proofs.door.Door.list.Goals as goal

pub returns : goal.returns
returns g c =
    subst (λ (k : Knows). Queried k c.read.new.self (ListNames c.args.mask) c.read.result) c.me.view_is c.read.ensures
