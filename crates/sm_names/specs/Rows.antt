-- The rows of names that have a service.
use Rattle.std.specs.Prelude.{ℕ, List, filter, map}
use Rattle.sm_history.specs.declared.named_row.NamedRow.{NamedRow}
use Rattle.sm_history.specs.Effects.{Effects}
use Rattle.sm_history.specs.Queries.{shares_bit}
use Rattle.sm_history.specs.Tables as tables

-- These are the names whose dump flags share a bit with a mask.
abbrev pub matching_names : ℕ → List NamedRow → List (List ℕ)
matching_names mask rows = map (λ r. r.name) (filter (λ r. shares_bit mask r.service) rows)

-- The rows are the services of names.
abbrev pub TracksRows : Effects → List NamedRow → Type 0
TracksRows d rows = tables.TracksNames d rows
