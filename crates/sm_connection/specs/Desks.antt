-- How a desk answers the items of a session, by its answers to commands.
use Rattle.std.specs.Prelude.{◌≡◌, ◌⊎◌, Ok}
use Rattle.sm_values.specs.Reading.{Fails}
use Rattle.sm_policy.specs.declared.fault.PolicyFault.{PolicyFault}
use Rattle.sm_policy.specs.Policy.{Policy}
use Rattle.sm_policy.specs.Preparing.{is_memory, prepared}
use Rattle.sm_wire.specs.declared.request.Request.{Request}
use Rattle.sm_wire.specs.declared.request.Request.TheVariants.{Change, Look, Reload, Denials, Seal}
use Rattle.sm_wire.specs.declared.request.Request.TheVariants as requests
use Rattle.sm_wire.specs.declared.item.Item.{Item}
use Rattle.sm_wire.specs.declared.item.Item.TheVariants as items
use Rattle.sm_wire.specs.Texts.{Texts}
use Rattle.sm_connection.specs.declared.command.Command.{Command}
use Rattle.sm_connection.specs.declared.command.Command.TheVariants.{Hello, Line, Install, Death}
use Rattle.sm_connection.specs.declared.response.Response.{Response, TheVariants.PolicyRefused}

-- In this state a desk may answer a command so, and is then in that state.
abbrev pub Answers : Type 0 → Type 1
Answers D = D → Command → Response → D → Type 0

-- This is the command of a request.
abbrev pub command_of : Request → Command
command_of (requests.Hello who) = Hello who
command_of (Change c event) = Line (Change c event)
command_of (Look c q) = Line (Look c q)
command_of (Reload expected rules contexts) = Line (Reload expected rules contexts)
command_of Denials = Line Denials
command_of Seal = Line Seal

-- The policy of the files is refused, and the desk wasn't asked; or they are those of a policy, and the desk was to
-- install it.
abbrev pub AnswersPolicy : {D : Type 0} → Answers D → D → Texts → Response → D → Type 0
AnswersPolicy answers old texts response new =
    ((fault : PolicyFault) × Fails is_memory fault (prepared texts.rules texts.contexts)
    × (response ≡ PolicyRefused fault) × (new ≡ old))
    ⊎ ((policy : Policy) × (prepared texts.rules texts.contexts ≡ Ok policy)
    × answers old (Install texts.expected policy) response new)

-- A desk answers an item so.
abbrev pub DeskAnswers : {D : Type 0} → Answers D → D → Item → Response → D → Type 0
DeskAnswers answers old (items.Asked request) response new = answers old (command_of request) response new
DeskAnswers answers old (items.Policy texts) response new = AnswersPolicy answers old texts response new
DeskAnswers answers old items.Malformed response new = ⊥
DeskAnswers answers old items.LineTooLong response new = ⊥

-- A desk takes the death of its client so.
abbrev pub DeskDeath : {D : Type 0} → Answers D → D → D → Type 0
DeskDeath answers old new = (response : Response) × answers old Death response new
