use Rattle.std.proofs.Common.{subst}
use Rattle.sm_history.specs.declared.query.Query.TheVariants.{List as ListNames}
use Rattle.sm_history.specs.Tokens.{Knows}
use Rattle.sm_door.specs.Logged.{ReadLogged}
use Rattle.sm_door.proofs.door.Door.list_recorded.Goals as goal

pub returns : goal.returns
returns g c =
    let read = c.read_recorded in
    subst (λ (k : Knows). ReadLogged k read.new.self (ListNames c.args.mask) read.result.0 read.result.1.items)
    c.me.view_is read.ensures
