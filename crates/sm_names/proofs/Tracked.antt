-- The names of rows are those that have a service.
use Rattle.std.proofs.Common.{◌≡◌, ℕ, List, ap, ◌∙◌}
use Rattle.std.specs.Prelude.{filter}
use Rattle.sm_history.specs.declared.named_row.NamedRow.{NamedRow}
use Rattle.sm_history.specs.Effects.{Effects}
use Rattle.sm_history.specs.Services.{service_at, current_names}
use Rattle.sm_history.specs.Queries.{names_by_mask, shares_bit}
use Rattle.sm_history.specs.Tables.{names_of}
use Rattle.sm_history.specs.Verdict.{service_meets}
use Rattle.sm_names.specs.Rows.{matching_names, TracksRows}
use Rattle.sm_names.proofs.RowLemmas.{matching_found}
use Rattle.sm_history.proofs.TableRows.{names_are as rows_named}

-- The rows are those of the names that have a service.
pub names_are : (d : Effects) (rows : List NamedRow) → TracksRows d rows → names_of rows ≡ current_names d
names_are d rows tr = rows_named d rows (record { services = tr.services; rises = tr.rises })

pub matching_are : (d : Effects) (rows : List NamedRow) (mask : ℕ) → TracksRows d rows
    → matching_names mask rows ≡ names_by_mask d mask
matching_are d rows mask tr =
    matching_found mask (service_at d) rows tr.rises tr.services
    ∙ ap (filter (λ (n : List ℕ). service_meets (shares_bit mask) (service_at d n))) (names_are d rows tr)
