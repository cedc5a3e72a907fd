-- Names whose service shares a bit with a mask.
use Rattle.std.proofs.Common.{◌≡◌, ℕ, true, false, List, [], ◌∷◌, ◌++◌, refl, ap, ◌∙◌, Option, Some, None}
use Rattle.std.proofs.Common.{if◌then◌else◌}
use Rattle.std.specs.Prelude.{filter, filter_map, option_map, map}
use Rattle.std.specs.List.{cons_option}
use Rattle.std.proofs.lemmas.List.{map-append}
use Rattle.std.proofs.lemmas.List.Elements.{filter-append}
use Rattle.sm_history.specs.declared.service.Service.{Service}
use Rattle.sm_history.specs.declared.named_row.NamedRow.{NamedRow}
use Rattle.sm_history.specs.Queries.{shares_bit}
use Rattle.sm_history.specs.Rising.{IsRising}
use Rattle.sm_history.specs.Rows.{named_row}
use Rattle.sm_history.specs.Tables.{row_in, service_of, names_of}
use Rattle.sm_history.specs.Verdict.{service_meets}
use Rattle.sm_history.proofs.NamedRows.{rows_found}
use Rattle.sm_names.specs.Rows.{matching_names}

pub matching_append : (mask : ℕ) (rows more : List NamedRow)
    → matching_names mask (rows ++ more) ≡ matching_names mask rows ++ matching_names mask more
matching_append mask rows more = rw (filter-append, map-append) refl

-- One name more, with the service that it has, if any.
one_more : (mask : ℕ) (n : List ℕ) (o : Option Service) (rows : List NamedRow) (ns : List (List ℕ))
    → matching_names mask rows ≡ ns → matching_names mask (cons_option (option_map (named_row n) o) rows)
    ≡ (if service_meets (shares_bit mask) o then n ∷ ns else ns)
one_more mask n None rows ns e = e
one_more mask n (Some s) rows ns e =
    elim (shares_bit mask s) as (λ b. map (λ (r : NamedRow). r.name)
    (if b then named_row n s ∷ filter (λ r. shares_bit mask r.service) rows
    else filter (λ r. shares_bit mask r.service) rows) ≡ (if b then n ∷ ns else ns))
    [ true ↦ ap (λ (l : List (List ℕ)). n ∷ l) e | false ↦ e ]

matching_under : (mask : ℕ) (f : List ℕ → Option Service) (names : List (List ℕ))
    → matching_names mask (filter_map (λ n. option_map (named_row n) (f n)) names)
    ≡ filter (λ n. service_meets (shares_bit mask) (f n)) names
matching_under mask f [] = refl
matching_under mask f (n ∷ ns) =
    one_more mask n (f n) (filter_map (λ m. option_map (named_row m) (f m)) ns)
    (filter (λ m. service_meets (shares_bit mask) (f m)) ns) (matching_under mask f ns)

pub matching_found : (mask : ℕ) (f : List ℕ → Option Service) (rows : List NamedRow) → IsRising (names_of rows)
    → ((q : List ℕ) → service_of (row_in rows q) ≡ f q)
    → matching_names mask rows ≡ filter (λ n. service_meets (shares_bit mask) (f n)) (names_of rows)
matching_found mask f rows h found =
    ap (matching_names mask) (rows_found f rows h found) ∙ matching_under mask f (names_of rows)
