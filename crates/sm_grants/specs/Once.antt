-- Rows of which no two are one client's.
use Rattle.std.specs.Prelude.{◌≡◌, true, List, map}
use Rattle.sm_history.specs.Once.{is_once}
use Rattle.sm_grants.specs.declared.rows.ClientHandles.{ClientHandles}

-- No two rows are one client's.
abbrev pub AreOnce : List ClientHandles → Type 0
AreOnce rows = is_once (map (λ r. r.client) rows) ≡ true
