-- The lines of a state.
use Rattle.std.specs.Prelude.{ℕ, ◌==◌, Bool, List, ◌++◌, codes, count_by, if◌then◌else◌}
use Rattle.std.specs.List.{flat_map}
use Rattle.sm_values.specs.Messages.{name_text, numbered}
use Rattle.sm_policy.specs.Policy.{Policy, label_of}
use Rattle.sm_history.specs.declared.effect.Watch.{Watch}
use Rattle.sm_history.specs.declared.named_row.NamedRow.{NamedRow}
use Rattle.sm_status.specs.States.{State, ClientStatus}

-- This is `state VERSION LENGTH SEGMENT USED`.
unfoldable pub counts_line : State → List ℕ
counts_line s =
    numbered (codes "state ") s.version ++ numbered (codes " ") s.length ++ numbered (codes " ") s.seals
    ++ numbered (codes " ") s.used ++ codes "\n"

-- This is the number of watches of a client.
abbrev pub watches_by : List Watch → ℕ → ℕ
watches_by ws c = count_by (λ w. w.client == c) ws

-- This is `client N PID UID CONTEXT`.
unfoldable pub process_text : ClientStatus → List ℕ
process_text c =
    numbered (codes "client ") c.client ++ numbered (codes " ") c.who.pid ++ numbered (codes " ") c.who.uid ++ codes " "
    ++ c.who.context

-- This is ` TURN HANDLES WATCHES DELIVERIES`.
unfoldable pub counts_text : List Watch → ClientStatus → List ℕ
counts_text ws c =
    numbered (codes " ") c.turns ++ numbered (codes " ") c.handles ++ numbered (codes " ") (watches_by ws c.client)
    ++ numbered (codes " ") c.deliveries

-- This is the line of a live client.
unfoldable pub client_line : List Watch → ClientStatus → List ℕ
client_line ws c = process_text c ++ counts_text ws c ++ codes "\n"

-- A flag is written after a space, as `1` or `0`.
abbrev pub spaced_flag : Bool → List ℕ
spaced_flag b = if b then codes " 1" else codes " 0"

-- This is `service NAME CLIENT oN ADDER ALLOW DUMP CONTEXT`, with the name's label under a policy.
unfoldable pub service_line : Policy → NamedRow → List ℕ
service_line p r =
    codes "service " ++ name_text r.name ++ numbered (codes " ") r.service.node.owner.0
    ++ numbered (codes " o") r.service.node.object ++ numbered (codes " ") r.service.adder
    ++ spaced_flag r.service.allow_isolated ++ numbered (codes " ") r.service.dump ++ codes " " ++ label_of p r.name
    ++ codes "\n"

-- This is `watch NAME CLIENT oN`.
unfoldable pub watch_line : Watch → List ℕ
watch_line w =
    codes "watch " ++ name_text w.name ++ numbered (codes " ") w.client ++ numbered (codes " o") w.object ++ codes "\n"

-- A state has a line with its counts, and then one for each live client, each name and each watch.
unfoldable pub state_text : State → List ℕ
state_text s =
    counts_line s ++ flat_map (client_line s.watches) s.clients ++ flat_map (service_line s.policy) s.names
    ++ flat_map watch_line s.watches
