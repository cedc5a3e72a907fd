use Rattle.std.proofs.Common.{refl, sym}
use Rattle.sm_grants.proofs.ClientRows.{at_row}
use Rattle.sm_grants.proofs.OnceRows.{none_here, sought}
use Rattle.sm_grants.proofs.rows.handles_of.Goals as goal

pub returns-in-Some : goal.returns-in-Some
returns-in-Some c =
    let at = at_row c.args.rows.now c.args.client c.in-Some.place (sought refl c.requires c.in-Some.ensures) in
    sym (at.here c.index-rows-place.result).0

pub returns-in-None : goal.returns-in-None
returns-in-None c = sym (none_here c.args.client refl c.in-None.ensures)
