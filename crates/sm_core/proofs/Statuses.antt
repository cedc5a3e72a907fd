-- The parts of a state that tables keep in another form.
use Rattle.std.proofs.Common.{◌≡◌, ℕ, ◌+◌, ◌<◌, List, [], ◌∷◌, ◌++◌, refl, ap, sym, ◌∙◌, map, take, length, get_or}
use Rattle.std.proofs.lemmas.List.{map-append, take_more}
use Rattle.std.specs.Prelude.{filter_map}
use Rattle.sm_history.specs.declared.named_row.NamedRow.{NamedRow}
use Rattle.sm_history.specs.Effects.{Effects}
use Rattle.sm_history.specs.Clients.{live_clients}
use Rattle.sm_history.specs.Histories.{History, effects_of}
use Rattle.sm_history.specs.Rows.{named_under}
use Rattle.sm_history.specs.Services.{current_names, service_at}
use Rattle.sm_history.specs.Tables.{TracksNames}
use Rattle.sm_history.proofs.NamedRows.{rows_found}
use Rattle.sm_history.proofs.TableRows.{names_are}
use Rattle.sm_status.specs.declared.client_status.ClientStatus.{ClientStatus}
use Rattle.sm_status.specs.States.{client_state}
use Rattle.sm_core.specs.declared.client.LiveClient.{LiveClient}
use Rattle.sm_core.specs.Statuses.{row_status}
use Rattle.sm_core.specs.Tables.{client_row, client_rows}

rows_told : (h : History) (cs : List ℕ)
    → map (row_status h) (map (client_row (effects_of h)) cs) ≡ map (client_state h) cs
rows_told h [] = refl
rows_told h (c ∷ cs) = ap (λ (l : List ClientStatus). client_state h c ∷ l) (rows_told h cs)

-- What rows of the live clients say is what the history says of these.
pub clients_told : (h : History) (rows : List LiveClient) → rows ≡ client_rows (effects_of h)
    → map (row_status h) rows ≡ map (client_state h) (live_clients (effects_of h))
clients_told h rows are = ap (map (row_status h)) are ∙ rows_told h (live_clients (effects_of h))

-- One more row was told.
pub told_more : (f : LiveClient → ClientStatus) (rows : List LiveClient) (i : ℕ) (row : LiveClient)
    (list list' : List ClientStatus) (s : ClientStatus) → row ≡ get_or rows i row → i < length rows
    → list' ≡ list ++ s ∷ [] → list ≡ map f (take i rows) → s ≡ f row → list' ≡ map f (take (i + 1) rows)
told_more f rows i row list list' s at lt more are is =
    let taken : take (i + 1) rows ≡ take i rows ++ row ∷ [] =
    take_more rows i row lt ∙ ap (λ (v : LiveClient). take i rows ++ v ∷ []) (sym at) in
    more ∙ ap (λ (v : List ClientStatus). v ++ s ∷ []) are
    ∙ ap (λ (v : ClientStatus). map f (take i rows) ++ v ∷ []) is
    ∙ sym (map-append f (take i rows) (row ∷ []))
    ∙ ap (map f) (sym taken)

-- The rows of names are those of the names that have a service.
pub names_told : (d : Effects) (rows : List NamedRow) → TracksNames d rows
    → rows ≡ filter_map (named_under d) (current_names d)
names_told d rows tr =
    rows_found (service_at d) rows tr.rises tr.services ∙ ap (filter_map (named_under d)) (names_are d rows tr)
