use Rattle.std.proofs.Common.{◌≡◌, ℕ, ◌∷◌, ◌++◌, List, ap, map, ◌∙◌}
use Rattle.sm_history.specs.declared.by.By.TheVariants.{Manager}
use Rattle.sm_history.specs.declared.turn.TurnRow.{TurnRow}
use Rattle.sm_history.specs.Histories.{effects_of, length_of}
use Rattle.sm_history.specs.Rows.{Rows, rows_at}
use Rattle.sm_history.specs.Segments.{actors_of, client, rows_of, turn_row}
use Rattle.sm_history.proofs.TableRows.{tables_are}
use Rattle.sm_core.specs.declared.client.LiveClient.{LiveClient}
use Rattle.sm_core.specs.Counting.{counted_admins, row_for}
use Rattle.sm_core.specs.Managed.{Ledgered}
use Rattle.sm_core.proofs.SealedTurns.{actor_rows, ids}
use Rattle.sm_core.proofs.Small.{small_length}
use Rattle.sm_core.proofs.ledger.Ledger.rows.Goals as goal

pub new-requires : goal.new-requires
new-requires c =
    let d = effects_of c.self.inside.journal.history in
    let k = c.self.invariant in
    (d, k.stands.sound, c.in_ok-tables.ensures d k.stands)

pub history_length-length-requires : goal.history_length-length-requires
history_length-length-requires c = small_length _ _ _ _ c.self.invariant

pub returns : goal.returns
returns c =
    let k = c.self.invariant in
    let h = c.self.inside.journal.history in
    let d = effects_of h in
    let tables = tables_are d c.in_ok-tables.tables k.stands.sound (c.in_ok-tables.ensures d k.stands) in
    let turns : c.in_ok-turns.turns.items ≡ map (turn_row h) (actors_of h) =
    c.in_ok-turns.ensures
    ∙ ap (λ (rs : List LiveClient). map (row_for c.self.inside.turns)
    (Manager ∷ map client (ids rs) ++ counted_admins c.self.inside.turns)) c.deref.ensures.value
    ∙ actor_rows h c.self.inside.turns c.self.inside.state.principals.clients.items k.turns_are k.admins_are
    k.stands.principals.clients in
    let length : c.history_length-length.result ≡ length_of h =
    c.history_length-length.ensures in
    c.new.ensures
    ∙ ap (λ (t : Rows). record
    { tables = t; length = c.history_length-length.result; turns = c.in_ok-turns.turns.items })
    tables
    ∙ ap (λ (ts : List TurnRow). record
    { tables = rows_at d; length = c.history_length-length.result; turns = ts }) turns
    ∙ ap (λ (n : ℕ). record { tables = rows_at d; length = n; turns = map (turn_row h) (actors_of h) }) length
    ∙ ap (λ (l : Ledgered). rows_of l.book.history) c.self.view_is
