use Rattle.std.proofs.Common.{◌≡◌, ◌<◌, Some, None, sym, ◌∙◌, arith}
use Rattle.sm_grants.specs.Rows.{table_of}
use Rattle.sm_grants.proofs.ClientRows.{node_found, node_none, node_no_number}
use Rattle.sm_grants.proofs.grants.Grants.node.Goals as goal

pub returns-then-number-eq0 : goal.returns-then-number-eq0
returns-then-number-eq0 c d tr =
    sym (rw c.if-number-eq0.true (node_no_number d c.args.self.now.rows.items c.args.client tr))

pub returns-in_default : goal.returns-in_default
returns-in_default c d tr =
    let at : table_of c.args.self.now.rows.items c.args.client ≡ None =
    rw (← c.deref.ensures.value) (sym c.in_default.ensures) in
    let some : 0 < c.args.number = omega (arith, c.if-number-eq0.false) in
    sym (node_none d c.args.self.now.rows.items c.args.client c.args.number tr at some)

pub returns-in_default-at : goal.returns-in_default-at
returns-in_default-at c d tr =
    let at : table_of c.args.self.now.rows.items c.args.client ≡ Some c.in-Some.handles.now =
    rw (← c.deref.ensures.value) (sym c.in-Some.ensures) in
    let some : 0 < c.args.number = omega (arith, c.if-number-eq0.false) in
    node_found d c.args.self.now.rows.items c.args.client c.in-Some.handles.now c.args.number None tr at some
    (sym c.in_default-at.is ∙ c.at.ensures)

pub returns : goal.returns
returns c d tr =
    let at : table_of c.args.self.now.rows.items c.args.client ≡ Some c.in-Some.handles.now =
    rw (← c.deref.ensures.value) (sym c.in-Some.ensures) in
    let some : 0 < c.args.number = omega (arith, c.if-number-eq0.false) in
    node_found d c.args.self.now.rows.items c.args.client c.in-Some.handles.now c.args.number (Some c.in-Some-at.held)
    tr at some (sym c.in-Some-at.is ∙ c.at.ensures)
