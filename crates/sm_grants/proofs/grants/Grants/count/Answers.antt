use Rattle.std.proofs.Common.{◌≡◌, Some, sym}
use Rattle.sm_grants.specs.Rows.{table_of}
use Rattle.sm_grants.proofs.Fits.{count_is}
use Rattle.sm_grants.proofs.grants.Grants.count.Goals as goal

pub returns-in-Some : goal.returns-in-Some
returns-in-Some c d tr =
    let at : table_of c.args.self.now.rows.items c.args.client ≡ Some c.in-Some.handles.now =
    rw (← c.deref.ensures.value) (sym c.in-Some.ensures) in
    count_is d c.args.self.now.rows.items c.args.client c.args.node (Some c.in-Some.handles.now) c.count.result tr at
    c.count.ensures.absent c.count.ensures.held
