use Rattle.std.proofs.Common.{◌≡◌, Some, None, sym}
use Rattle.sm_grants.specs.Rows.{table_of}
use Rattle.sm_grants.proofs.ClientRows.{number_found, number_none}
use Rattle.sm_grants.proofs.grants.Grants.number_for.Goals as goal

pub returns-in-Some : goal.returns-in-Some
returns-in-Some c d tr =
    let at : table_of c.args.self.now.rows.items c.args.client ≡ Some c.in-Some.handles.now =
    rw (← c.deref.ensures.value) (sym c.in-Some.ensures) in
    number_found d c.args.self.now.rows.items c.args.client c.in-Some.handles.now c.args.node c.number_for.result tr
    at c.number_for.ensures

pub returns-in-None : goal.returns-in-None
returns-in-None c d tr =
    let at : table_of c.args.self.now.rows.items c.args.client ≡ None =
    rw (← c.deref.ensures.value) (sym c.in-None.ensures) in
    number_none d c.args.self.now.rows.items c.args.client c.args.node tr at
