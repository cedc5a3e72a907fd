-- What queries read.
use Rattle.std.specs.Prelude.{ℕ, ◌≡◌}
use Rattle.sm_history.specs.Histories.{History, effects_of, length_of}
use Rattle.sm_names.specs.declared.services.Services.{Services}
use Rattle.sm_names.specs.Rows.{TracksRows}
use Rattle.sm_core.specs.declared.principals.Principals.{Principals}
use Rattle.sm_core.specs.Stands.{StandPrincipals}

-- The processes, the services and the number of changes are those of a history.
pub record AreTablesOf (h : History) (length : ℕ) (principals : Principals) (services : Services) : Type 0 where
  pub asks : StandPrincipals (effects_of h) principals
  pub named : TracksRows (effects_of h) services.rows.items
  pub length_is : length ≡ length_of h
