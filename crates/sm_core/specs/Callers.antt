-- Actors that may act.
use Rattle.std.specs.Prelude.{◌≡◌, true}
use Rattle.sm_history.specs.Effects.{Effects}
use Rattle.sm_history.specs.Clients.{is_live}
use Rattle.sm_history.specs.declared.by.By.{By, TheVariants.Manager, TheVariants.Client, TheVariants.Admin}
use Rattle.sm_core.specs.declared.caller.Caller.{Caller}
use Rattle.sm_core.specs.declared.caller.Caller.TheVariants.{Manager as TheManager, Client as AClient, Admin as AnAdmin}
use Rattle.sm_core.specs.Tables.{client_row}

-- This is the actor.
abbrev pub by_of : Caller → By
by_of TheManager = Manager
by_of (AClient row) = Client (record { 0 = row.now.id })
by_of (AnAdmin a) = Admin a

-- A client is live, and comes with its row.
abbrev pub HasRow : Effects → Caller → Type 0
HasRow d (AClient row) = (is_live d row.now.id ≡ true) × (row.now ≡ client_row d row.now.id)
HasRow d _ = Unit {0}
