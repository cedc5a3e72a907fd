use Rattle.std.proofs.Common.{subst}
use Rattle.sm_history.specs.declared.query.Query.TheVariants.{Version}
use Rattle.sm_history.specs.Promises.{Queried}
use Rattle.sm_history.specs.Tokens.{Knows}
use Rattle.sm_door.proofs.token.SessionToken.read_version.Goals as goal

pub returns : goal.returns
returns g c = subst (λ (k : Knows). Queried k c.read.new.self Version c.read.result) c.self.view_is c.read.ensures
