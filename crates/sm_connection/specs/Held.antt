-- What a connection and its audit sink hold.
use Rattle.std.specs.Prelude.{◌≡◌, List, Option}
use Rattle.sm_history.specs.declared.records.Record.{Record}
use Rattle.sm_connection.specs.declared.command.Command.{Command}
use Rattle.sm_connection.specs.declared.response.Response.{Response}
use Rattle.sm_connection.specs.Sinks.{with_records}

-- A connection that holds this may answer a command so, with these audit records, and then holds that.
abbrev pub Gives : Type 0 → Type 1
Gives S = S → Command → Response → List Record → S → Type 0

-- A connection holds this, and its sink was given these audit records, if they are known.
pub record Holding (S : Type 0) : Type 0 where
  pub held : S
  pub given : Option (List Record)

abbrev pub holding : {S : Type 0} → S → Option (List Record) → Holding S
holding held given = record { held = held; given = given }

-- The command was answered so, and the sink was given the records of the answer once.
abbrev pub Puts : {S : Type 0} → Gives S → Holding S → Command → Response → Holding S → Type 0
Puts gives old command response new =
    (log : List Record) × gives old.held command response log new.held × (new.given ≡ with_records old.given log)
