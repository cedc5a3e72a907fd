-- What the answers to a connection, and their audit records, promise of the histories that its token sees.
use Rattle.std.specs.Prelude.{◌≡◌, ◌⊎◌, MatchBool, List, [], Option, Some, None}
use Rattle.sm_values.specs.declared.identity.Identity.{Identity}
use Rattle.sm_values.specs.declared.number.ClientId.{ClientId}
use Rattle.sm_history.specs.declared.by.By.{By, TheVariants.Manager, TheVariants.Client, TheVariants.Admin}
use Rattle.sm_history.specs.declared.event.Event.{Event, TheVariants.Die, TheVariants.Reload}
use Rattle.sm_history.specs.declared.outcome.Outcome.TheVariants.{Connected, Died}
use Rattle.sm_history.specs.declared.query.Query.{Query}
use Rattle.sm_history.specs.declared.query.Query.TheVariants.{List as ListNames, Version as AskVersion, Explain}
use Rattle.sm_history.specs.declared.records.Record.{Record}
use Rattle.sm_history.specs.declared.refusal.Refusal.{Refusal, TheVariants.Failed, TheVariants.TooManyClients}
use Rattle.sm_history.specs.declared.refusal.Failure.TheVariants.{NotYours, NotConnected}
use Rattle.sm_history.specs.declared.reply.Reply.{Reply}
use Rattle.sm_history.specs.declared.reply.Reply.TheVariants.{Done, GotNull, GotOwn, Looked, Sealed, Refused}
use Rattle.sm_history.specs.Histories.{History, client_of, length_of}
use Rattle.sm_history.specs.BookOrder.{Begins, IsLawfulBook}
use Rattle.sm_history.specs.PossibleReplies.{OfConnect, OfDeath}
use Rattle.sm_history.specs.Promises.{Accepted, Closed, Joined, NotClosed, NotTold, Queried, Submitted, TellsRecords}
use Rattle.sm_history.specs.Promises.{Turned}
use Rattle.sm_history.specs.Tokens.{Knows, token}
use Rattle.sm_history.specs.Verdict.{is_die}
use Rattle.sm_door.specs.Logged.{Logged, ReadLogged}
use Rattle.sm_wire.specs.declared.request.Request.{Request}
use Rattle.sm_wire.specs.declared.request.Request.TheVariants.{Change, Look, Denials, Seal}
use Rattle.sm_wire.specs.declared.request.Request.TheVariants as requests
use Rattle.sm_connection.specs.declared.response.Response.{Response}
use Rattle.sm_connection.specs.declared.response.Response.TheVariants.{Replied, PolicyRefused, Denied}
use Rattle.sm_connection.specs.declared.command.Command.{Command}
use Rattle.sm_connection.specs.declared.command.Command.TheVariants.{Hello, Line, Install, Death}

-- This is refused without a look at any history, and what the connection holds stays as it is.
abbrev pub SaysOnly : {T : Type 0} → Refusal → T → Reply → T → Type 0
SaysOnly refusal old reply new = (reply ≡ Refused refusal) × (new ≡ old)

-- ---- clients

-- A client's connection holds a free seat, which is a token of the manager's, or its client's session; or nothing, if
-- it was given no seat. This chooses by the token's actor.
abbrev pub SeatOr : By → Type 0 → Type 0 → Type 0
SeatOr Manager seat session = seat
SeatOr (Client c) seat session = session
SeatOr (Admin a) seat session = seat

-- The manager connected the process from a seat, and the answer is the client's number; or it was refused, and the
-- token is still the manager's.
abbrev pub Greets : Knows → Identity → Reply → Knows → Type 0
Greets seat who (Done outcome) new =
    (outcome ≡ Connected (record { 0 = client_of new.by })) × Joined seat new who
Greets seat who (Refused refusal) new = OfConnect refusal × Turned seat new who refusal × (new.by ≡ Manager)
Greets seat who GotNull new = ⊥
Greets seat who (GotOwn o) new = ⊥
Greets seat who (Looked v l a) new = ⊥
Greets seat who (Sealed n l) new = ⊥

-- A process says `hello`. A connection that was given no seat has no place for it.
abbrev pub GivesHello : Option Knows → Identity → Reply → Option Knows → Type 0
GivesHello None who reply new = SaysOnly TooManyClients None reply new
GivesHello (Some seat) who reply new = SeatOr seat.by
    ((token : Knows) × Greets seat who reply token × (new ≡ Some token))
    (SaysOnly (Failed NotYours) (Some seat) reply new)

-- The client died, and the connection holds its free seat, which has seen the death; or its death was refused, and it
-- still holds the client.
abbrev pub DiesAtDoor : Knows → Reply → Option Knows → Type 0
DiesAtDoor old (Done outcome) new = (outcome ≡ Died) × ((seat : Knows)
    × Accepted old (token old.by seat.seen seat.reads) Die Died × (seat.by ≡ Manager) × (new ≡ Some seat))
DiesAtDoor old (Refused refusal) new = OfDeath refusal
    × ((token : Knows) × Submitted old token Die (Refused refusal) × (new ≡ Some token))
DiesAtDoor old GotNull new = ⊥
DiesAtDoor old (GotOwn o) new = ⊥
DiesAtDoor old (Looked v l a) new = ⊥
DiesAtDoor old (Sealed n l) new = ⊥

-- The one holds of the session of a connection's client; without a client, the other holds.
abbrev pub OfSession : (Knows → Type 0) → Type 0 → Option Knows → Type 0
OfSession Answers without None = without
OfSession Answers without (Some token) = SeatOr token.by without (Answers token)

-- There is no client.
abbrev pub HasNoClient : Option Knows → Type 0
HasNoClient None = Unit {0}
HasNoClient (Some token) = token.by ≡ Manager

-- The session was taken from what was held; or there was none, and nothing changed.
abbrev pub TakesSession : Option Knows → Option Knows → Option Knows → Type 0
TakesSession old (Some session) new =
    (old ≡ Some session) × ((client : ClientId) × (session.by ≡ Client client)) × (new ≡ None)
TakesSession old None new = HasNoClient old × (new ≡ old)

-- A client dies; without a client, the answer is `not-connected`.
abbrev pub GivesDeath : Option Knows → Reply → Option Knows → Type 0
GivesDeath old reply new =
    OfSession (λ session. DiesAtDoor session reply new) (SaysOnly (Failed NotConnected) old reply new) old

-- The same refusal, which isn't recorded.
abbrev pub SaysUnrecorded : Refusal → Option Knows → Reply → List Record → Option Knows → Type 0
SaysUnrecorded refusal old reply log new = SaysOnly refusal old reply new × (log ≡ [])

-- A client makes a change, which leaves its records.
abbrev pub GivesChange : Option Knows → Event → Reply → List Record → Option Knows → Type 0
GivesChange old event reply log new = OfSession
    (λ session. (token : Knows) × Submitted session token event reply × Logged session token event reply log
    × (new ≡ Some token)) (SaysUnrecorded (Failed NotConnected) old reply log new) old

-- A client makes a query. A list of names leaves its records. An `explain` isn't a client's.
abbrev pub Reads : Knows → Query → Reply → List Record → Option Knows → Type 0
Reads old (ListNames mask) reply log new = (token : Knows) × ReadLogged old token (ListNames mask) reply log
    × (new ≡ Some token)
Reads old AskVersion reply log new = (token : Knows) × Queried old token AskVersion reply × (log ≡ [])
    × (new ≡ Some token)
Reads old (Explain s t class perm) reply log new = SaysUnrecorded (Failed NotYours) (Some old) reply log new

abbrev pub GivesLook : Option Knows → Query → Reply → List Record → Option Knows → Type 0
GivesLook old q reply log new = OfSession (λ session. Reads session q reply log new)
    (SaysUnrecorded (Failed NotConnected) old reply log new) old

-- A client's line other than a `hello`. A death leaves no records.
abbrev pub GivesLine : Option Knows → Request → Reply → List Record → Option Knows → Type 0
GivesLine old (Change c event) reply log new =
    MatchBool (is_die event) (GivesDeath old reply new × (log ≡ [])) (GivesChange old event reply log new)
GivesLine old (Look c q) reply log new = GivesLook old q reply log new
GivesLine old (requests.Hello who) reply log new = SaysUnrecorded (Failed NotYours) old reply log new
GivesLine old (requests.Reload expected rules contexts) reply log new =
    SaysUnrecorded (Failed NotYours) old reply log new
GivesLine old Denials reply log new = SaysUnrecorded (Failed NotYours) old reply log new
GivesLine old Seal reply log new = SaysUnrecorded (Failed NotYours) old reply log new

-- The history goes on from the one token to the other: it has seen all that the earlier one had, and what it sees is
-- lawful if that was.
pub record GoesOn (old new : Knows) : Type 0 where
  pub begins : Begins new.seen old.seen
  pub lawful : IsLawfulBook old.seen → IsLawfulBook new.seen

-- What is held is a token that the history goes on to; or nothing, if nothing was held before.
abbrev pub ComesAfter : Option Knows → Option Knows → Type 0
ComesAfter None new = new ≡ None
ComesAfter (Some old) new = (token : Knows) × GoesOn old token × (new ≡ Some token)

-- What is held is the same, or a token of the same actor that has seen no less.
abbrev pub StillHolds : Option Knows → Option Knows → Type 0
StillHolds None new = new ≡ None
StillHolds (Some old) new = (token : Knows) × GoesOn old token × (new ≡ Some token) × (token.by ≡ old.by)

-- A connection ends: its client dies, after tries that an allocation failed.
abbrev pub GivesDeathAfterTries : Option Knows → Reply → Option Knows → Type 0
GivesDeathAfterTries old reply new = (tried : Option Knows) × StillHolds old tried × GivesDeath tried reply new

-- A client's connection gives this reply to a command, with these audit records.
abbrev pub ClientReplies : Option Knows → Command → Reply → List Record → Option Knows → Type 0
ClientReplies old (Hello who) reply log new = GivesHello old who reply new × (log ≡ [])
ClientReplies old (Line request) reply log new = GivesLine old request reply log new
ClientReplies old (Install expected policy) reply log new = SaysUnrecorded (Failed NotYours) old reply log new
ClientReplies old Death reply log new = GivesDeathAfterTries old reply new × (log ≡ [])

-- A client's connection answers a command so, with these audit records.
abbrev pub ClientGives : Option Knows → Command → Response → List Record → Option Knows → Type 0
ClientGives old command (Replied reply) log new = ClientReplies old command reply log new
ClientGives old command (PolicyRefused fault) log new = ⊥
ClientGives old command (Denied records) log new = ⊥

-- ---- administrators

-- An administrator makes a query. A list of names isn't an administrator's.
abbrev pub AdminReads : Knows → Query → Reply → Knows → Type 0
AdminReads old (ListNames mask) reply new = SaysOnly (Failed NotYours) old reply new
AdminReads old AskVersion reply new = Queried old new AskVersion reply
AdminReads old (Explain s t class perm) reply new = Queried old new (Explain s t class perm) reply

-- An administrator closes the open segment, and is told its number and the length of the history at its end.
abbrev pub AdminSeals : Knows → Reply → Knows → Type 0
AdminSeals old (Sealed n l) new = (segment : History) × (n ≡ segment.number) × (l ≡ length_of segment)
    × Closed old new segment
AdminSeals old (Refused refusal) new = NotClosed old new refusal
AdminSeals old (Done outcome) new = ⊥
AdminSeals old GotNull new = ⊥
AdminSeals old (GotOwn o) new = ⊥
AdminSeals old (Looked v l a) new = ⊥

-- An administrator isn't told the records.
abbrev pub AdminTold : Knows → Reply → Knows → Type 0
AdminTold old (Refused refusal) new = NotTold old new refusal
AdminTold old (Done outcome) new = ⊥
AdminTold old GotNull new = ⊥
AdminTold old (GotOwn o) new = ⊥
AdminTold old (Looked v l a) new = ⊥
AdminTold old (Sealed n l) new = ⊥

-- An administrator's connection gives this reply to a line.
abbrev pub AdminReplies : Knows → Request → Reply → Knows → Type 0
AdminReplies old (Look c q) reply new = AdminReads old q reply new
AdminReplies old Denials reply new = AdminTold old reply new
AdminReplies old Seal reply new = AdminSeals old reply new
AdminReplies old (Change c event) reply new = SaysOnly (Failed NotYours) old reply new
AdminReplies old (requests.Hello who) reply new = SaysOnly (Failed NotYours) old reply new
AdminReplies old (requests.Reload expected rules contexts) reply new = SaysOnly (Failed NotYours) old reply new

-- An administrator's connection answers a line so.
abbrev pub AdminGivesLine : Knows → Request → Response → Knows → Type 0
AdminGivesLine old request (Replied reply) new = AdminReplies old request reply new
AdminGivesLine old request (PolicyRefused fault) new = ⊥
AdminGivesLine old request (Denied records) new = (request ≡ Denials) × TellsRecords old new records.items

-- An administrator installs a policy.
abbrev pub AdminInstalls : Knows → Event → Response → Knows → Type 0
AdminInstalls old event (Replied reply) new = Submitted old new event reply
AdminInstalls old event (PolicyRefused fault) new = ⊥
AdminInstalls old event (Denied records) new = ⊥

-- An administrator's connection answers a command so. An administrator's connection has no client.
abbrev pub AdminAnswers : Knows → Command → Response → Knows → Type 0
AdminAnswers old (Hello who) response new = (response ≡ Replied (Refused (Failed NotYours))) × (new ≡ old)
AdminAnswers old (Line request) response new = AdminGivesLine old request response new
AdminAnswers old (Install expected policy) response new = AdminInstalls old (Reload expected policy) response new
AdminAnswers old Death response new = (response ≡ Replied (Refused (Failed NotYours))) × (new ≡ old)

-- No answer to an administrator has audit records.
abbrev pub AdminGives : Knows → Command → Response → List Record → Knows → Type 0
AdminGives old command response log new = AdminAnswers old command response new × (log ≡ [])
