-- The answers to the items of a script.
use Rattle.std.specs.Prelude.{◌≡◌, ◌⊎◌, ℕ, List, [], ◌++◌, Ok, codes, Option, Some, None}
use Rattle.std.specs.List.{flat_map}
use Rattle.sm_values.specs.declared.number.AdminId.{AdminId}
use Rattle.sm_values.specs.declared.number.ClientId.{ClientId}
use Rattle.sm_policy.specs.declared.fault.PolicyFault.{PolicyFault}
use Rattle.sm_policy.specs.Policy.{Policy}
use Rattle.sm_values.specs.Reading.{Fails}
use Rattle.sm_policy.specs.Preparing.{is_memory, prepared}
use Rattle.sm_history.specs.declared.by.By.{By, TheVariants.Manager, TheVariants.Client, TheVariants.Admin}
use Rattle.sm_history.specs.declared.event.Event.{Event, TheVariants.Connect, TheVariants.Reload}
use Rattle.sm_history.specs.declared.reply.Reply.{Reply, TheVariants.Refused}
use Rattle.sm_history.specs.Histories.{turn_of}
use Rattle.sm_history.specs.Told.{told}
use Rattle.sm_history.specs.Books.{Book}
use Rattle.sm_history.specs.declared.query.Query.{Query}
use Rattle.sm_history.specs.declared.records.Record.{Record}
use Rattle.sm_history.specs.declared.refusal.Refusal.TheVariants.{Memory}
use Rattle.sm_audit.specs.AuditLines.{audit_line}
use Rattle.sm_core.specs.Managed.{Managed, look_leaves, ring_after, step_leaves}
use Rattle.sm_history.specs.Promises.{Looks}
use Rattle.sm_history.specs.Steps.{Steps, AnswersSeal}
use Rattle.sm_wire.specs.declared.request.Request.{Request}
use Rattle.sm_wire.specs.declared.request.Request.TheVariants.{Hello, Change, Look, Denials, Seal}
use Rattle.sm_wire.specs.declared.request.Request.TheVariants as requests
use Rattle.sm_wire.specs.declared.item.Item.{Item}
use Rattle.sm_wire.specs.declared.item.Item.TheVariants as items
use Rattle.sm_wire.specs.declared.telling.Telling.{Telling}
use Rattle.sm_wire.specs.Replies.{denials_text, policy_refused_text, reply_text, told_text, told_in}
use Rattle.sm_wire.specs.Texts.{Texts}

-- A script sees these of its manager: its book, and its newest records, oldest first.
pub record Recorded : Type 0 where
  pub book : Book
  pub ring : List Record

-- This is what a script sees of a manager.
abbrev pub recorded : Managed → Recorded
recorded m = record { book = m.book; ring = m.ring }

-- An actor's event is answered by the verdict at the actor's turn, and its records go into the ring; or an allocation
-- failed, and nothing changed.
pub record AnswersNow (old : Recorded) (by : By) (event : Event) (reply : Reply) (noted : List Record) (new : Recorded)
    : Type 0 where
  pub answers : Steps old.book by (turn_of old.book.history by) event reply new.book
  pub records : noted ≡ step_leaves old.book by (turn_of old.book.history by) event reply
  pub ring : new.ring ≡ ring_after old.ring old.book by (turn_of old.book.history by) event reply

-- A query is answered on the present history; its records are written, but don't go into the ring.
pub record AnswersQuery (old : Recorded) (by : By) (query : Query) (reply : Reply) (noted : List Record)
    (new : Recorded) : Type 0 where
  pub looks : Looks old.book by query reply
  pub records : noted ≡ look_leaves old.book by query reply
  pub unchanged : new ≡ old

-- The open segment is closed, and the answer says so, or it isn't, and nothing changed. The records in the ring stay.
pub record SealsNow (old : Recorded) (reply : Reply) (new : Recorded) : Type 0 where
  pub answers : AnswersSeal old.book reply new.book
  pub ring : new.ring ≡ old.ring

-- This is the administrator of a script.
abbrev pub the_administrator : AdminId
the_administrator = record { 0 = 1 }

-- A request is judged on the history after the requests before it.
abbrev pub Judges : Recorded → Request → Reply → List Record → Recorded → Type 0
Judges old (Hello who) reply noted new = AnswersNow old Manager (Connect who) reply noted new
Judges old (Change (Some client) event) reply noted new = AnswersNow old (Client client) event reply noted new
Judges old (Change None event) reply noted new = ⊥
Judges old (Look (Some client) query) reply noted new = AnswersQuery old (Client client) query reply noted new
Judges old (Look None query) reply noted new = AnswersQuery old (Admin the_administrator) query reply noted new
Judges old (requests.Reload expected rules contexts) reply noted new = ⊥
Judges old Denials reply noted new = (reply ≡ Refused Memory) × (noted ≡ []) × (new ≡ old)
Judges old Seal reply noted new = SealsNow old reply new × (noted ≡ [])

-- No line of a script spells this request: a change without a client, or a `reload` without its files.
abbrev pub IsUnasked : Request → Type 0
IsUnasked (Hello who) = ⊥
IsUnasked (Change (Some client) event) = ⊥
IsUnasked (Change None event) = Unit {0}
IsUnasked (Look client query) = ⊥
IsUnasked (requests.Reload expected rules contexts) = Unit {0}
IsUnasked Denials = ⊥
IsUnasked Seal = ⊥

-- A query comes from a client, or from the administrator if none is named.
abbrev pub asker_of : Option ClientId → By
asker_of (Some client) = Client client
asker_of None = Admin the_administrator

-- The visible part of a reply was appended to one text, and the lines of its records to another.
pub record Told (telling : Telling) (reply : Reply) (noted : List Record)
    (replies replies_new audit audit_new : List ℕ) : Type 0 where
  pub replied : replies_new ≡ replies ++ told_text (told_in telling reply)
  pub audited : audit_new ≡ audit ++ flat_map audit_line noted

-- The files are those of a policy, and this is the answer to the administrator who replaces the one in force by it.
pub record Reloads (old : Recorded) (texts : Texts) (line lines : List ℕ) (new : Recorded) : Type 0 where
  pub policy : Policy
  pub reads : prepared texts.rules texts.contexts ≡ Ok policy
  pub reply : Reply
  pub noted : List Record
  pub judged : AnswersNow old (Admin the_administrator) (Reload texts.expected policy) reply noted new
  pub written : line ≡ told_text (told (Reload texts.expected policy) reply)
  pub audited : lines ≡ flat_map audit_line noted

-- The policy of the files is refused, and nothing changed.
pub record Refuses (old : Recorded) (texts : Texts) (line lines : List ℕ) (new : Recorded) : Type 0 where
  pub fault : PolicyFault
  pub fails : Fails is_memory fault (prepared texts.rules texts.contexts)
  pub unchanged : new ≡ old
  pub written : line ≡ policy_refused_text fault
  pub audited : lines ≡ []

-- A `reload` has this line and these audit lines as its answer, and leaves this state.
abbrev pub AnswersTexts : Recorded → Texts → List ℕ → List ℕ → Recorded → Type 0
AnswersTexts old texts line lines new = Reloads old texts line lines new ⊎ Refuses old texts line lines new

-- A request has these reply lines and these audit lines, and leaves this state.
abbrev pub AnswersRequest : Recorded → Request → List ℕ → List ℕ → Recorded → Type 0
AnswersRequest old request line lines new =
    ((reply : Reply) × (noted : List Record) × Judges old request reply noted new × (line ≡ reply_text request reply)
    × (lines ≡ flat_map audit_line noted))
    ⊎ ((request ≡ Denials) × (line ≡ denials_text old.ring) × (lines ≡ []) × (new ≡ old))
    ⊎ (IsUnasked request × (line ≡ codes "malformed\n") × (lines ≡ []) × (new ≡ old))

-- Fewer bytes of replies, and of audit lines, may be held back until the items that came with theirs are answered.
abbrev pub script_held_limit : ℕ
script_held_limit = 65536

-- An item has these reply lines and these audit lines, and leaves this state.
abbrev pub ScriptAnswers : Recorded → Item → List ℕ → List ℕ → Recorded → Type 0
ScriptAnswers old (items.Asked request) line lines new = AnswersRequest old request line lines new
ScriptAnswers old (items.Policy texts) line lines new = AnswersTexts old texts line lines new
ScriptAnswers old items.Malformed line lines new = (line ≡ codes "malformed\n") × (lines ≡ []) × (new ≡ old)
ScriptAnswers old items.LineTooLong line lines new = (line ≡ codes "fault long\n") × (lines ≡ []) × (new ≡ old)
