-- A connection sees one lawful history that grows.
use Rattle.std.specs.Prelude.{List, Option}
use Rattle.sm_history.specs.declared.records.Record.{Record}
use Rattle.sm_history.specs.Tokens.{Knows}
use Rattle.sm_connection.specs.declared.response.Response.{Response}
use Rattle.sm_connection.specs.declared.command.Command.{Command}
use Rattle.sm_connection.specs.Connections.{AdminGives, ClientGives, ComesAfter, GoesOn}

-- Each answer of a client's connection comes from a history that begins with what the connection had seen.
abbrev pub ClientsSeeMore : Type 0
ClientsSeeMore = (old new : Option Knows) (command : Command) (response : Response) (log : List Record)
    → ClientGives old command response log new → ComesAfter old new

-- So does each answer of an administrator's.
abbrev pub AdminsSeeMore : Type 0
AdminsSeeMore = (old new : Knows) (command : Command) (response : Response) (log : List Record)
    → AdminGives old command response log new → GoesOn old new
