use Rattle.std.proofs.Common.{◌≡◌, Some, None, sym}
use Rattle.std.specs.Prelude.{is_some}
use Rattle.std.proofs.lemmas.Option.{IfSome_then}
use Rattle.sm_grants.specs.Rows.{table_of}
use Rattle.sm_grants.proofs.ClientRows.{number_found, number_none}
use Rattle.sm_grants.proofs.Fits.{fits_is, fits_new}
use Rattle.sm_grants.proofs.grants.Grants.number_if_room.Goals as goal

pub returns-in-Some-clause-room : goal.returns-in-Some-clause-room
returns-in-Some-clause-room c d r tr live =
    let at : table_of c.args.self.now.rows.items c.args.client ≡ Some c.in-Some.handles.now =
    rw (← c.deref.ensures.value) (sym c.in-Some.ensures) in
    fits_is d c.args.self.now.rows.items c.args.client c.args.node r (Some c.in-Some.handles.now)
    (is_some c.number_if_room.result) tr live at c.number_if_room.ensures.absent c.number_if_room.ensures.held

pub returns-in-Some-clause-number : goal.returns-in-Some-clause-number
returns-in-Some-clause-number c d tr =
    let at : table_of c.args.self.now.rows.items c.args.client ≡ Some c.in-Some.handles.now =
    rw (← c.deref.ensures.value) (sym c.in-Some.ensures) in
    IfSome_then c.number_if_room.result c.number_if_room.ensures.number (λ number is.
    number_found d c.args.self.now.rows.items c.args.client c.in-Some.handles.now c.args.node number tr at is)

pub returns-in-None-clause-room : goal.returns-in-None-clause-room
returns-in-None-clause-room c d r tr live =
    let at : table_of c.args.self.now.rows.items c.args.client ≡ None =
    rw (← c.deref.ensures.value) (sym c.in-None.ensures) in
    sym (fits_new d c.args.self.now.rows.items c.args.client c.args.node r None tr live at (λ i p. cc))

pub returns-in-None-clause-number : goal.returns-in-None-clause-number
returns-in-None-clause-number c d tr =
    let at : table_of c.args.self.now.rows.items c.args.client ≡ None =
    rw (← c.deref.ensures.value) (sym c.in-None.ensures) in
    number_none d c.args.self.now.rows.items c.args.client c.args.node tr at
