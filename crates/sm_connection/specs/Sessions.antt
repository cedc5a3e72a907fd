-- What a session asks its desk, and what it writes.
use Rattle.std.specs.Prelude.{◌≡◌, ◌<◌, ◌≤◌, ◌+◌, ℕ, List, [], Bool, true, false, ◌||◌, ◌&&◌, not, codes}
use Rattle.std.specs.Prelude.{MatchBool, Option, None, Result, Err, OnOk, min}
use Rattle.std.specs.Io.KnownBytes.{IsAtEnd}
use Rattle.sm_history.specs.declared.outcome.Outcome.TheVariants.{Connected, Died}
use Rattle.sm_history.specs.declared.reply.Reply.{Reply, TheVariants.Done}
use Rattle.sm_history.specs.Verdict.{is_die}
use Rattle.sm_wire.specs.declared.request.Request.{Request}
use Rattle.sm_wire.specs.declared.request.Request.TheVariants.{Hello, Change, Look, Reload, Denials, Seal}
use Rattle.sm_wire.specs.declared.item.Item.{Item}
use Rattle.sm_wire.specs.declared.item.Item.TheVariants.{Asked, Policy, Malformed, LineTooLong}
use Rattle.sm_wire.specs.declared.kind.Kind.{Kind, TheVariants.Client, TheVariants.Admin}
use Rattle.sm_wire.specs.Replies.{visible_reply}
use Rattle.sm_engine.specs.declared.counted.Counted.{Counted}
use Rattle.sm_engine.specs.declared.fault.Fault.{Fault}
use Rattle.sm_engine.specs.declared.fault.Fault.TheVariants.{ReadFault, TooManyReads, WriteFault}
use Rattle.sm_engine.specs.Counts.{calls_of, failures_of, greatest_count}
use Rattle.sm_engine.specs.Running.{Served}
use Rattle.sm_connection.specs.declared.response.Response.{Response, TheVariants.Replied}
use Rattle.sm_connection.specs.declared.session_state.SessionState.{SessionState}
use Rattle.sm_connection.specs.Responses.{response_text}

-- A client says who it is first, and only once; before that it may ask nothing else.
unfoldable pub client_may : Bool → Request → Bool
client_may connected (Hello who) = not connected
client_may connected (Change client event) = connected
client_may connected (Look client query) = connected
client_may connected (Reload expected rules contexts) = false
client_may connected Denials = false
client_may connected Seal = false

-- An administrator may ask about the policy and for the last denials, and may close the open segment.
unfoldable pub admin_may : Request → Bool
admin_may (Hello who) = false
admin_may (Change client event) = false
admin_may (Look client query) = true
admin_may (Reload expected rules contexts) = false
admin_may Denials = true
admin_may Seal = true

-- An item is passed to the desk. Only an administrator replaces the policy, and a session is never a script's.
abbrev pub is_asked : Kind → Bool → Item → Bool
is_asked Client connected (Asked request) = client_may connected request
is_asked Admin connected (Asked request) = admin_may request
is_asked Admin connected (Policy texts) = true
is_asked _ connected _ = false

-- An item that isn't passed to the desk is answered so.
abbrev pub said_to : Item → List ℕ
said_to (Asked request) = codes "malformed\n"
said_to (Policy texts) = codes "malformed\n"
said_to Malformed = codes "malformed\n"
said_to LineTooLong = codes "fault long\n"

-- This is the visible part of a reply to the item.
abbrev pub reply_told : Item → Reply → Reply
reply_told (Asked request) reply = visible_reply request reply
reply_told (Policy texts) reply = reply
reply_told Malformed reply = reply
reply_told LineTooLong reply = reply

-- An answer is a client's number.
unfoldable pub is_connected : Response → Bool
is_connected (Replied (Done (Connected client))) = true
is_connected _ = false

-- An answer says that the client has died.
unfoldable pub is_died : Response → Bool
is_died (Replied (Done Died)) = true
is_died _ = false

-- A `hello` is answered by a client's number.
abbrev pub makes_client : Item → Response → Bool
makes_client (Asked (Hello who)) response = is_connected response
makes_client _ response = false

-- A client dies: its `bye` is answered by `bye`.
abbrev pub dies : Item → Response → Bool
dies (Asked (Change client event)) response = is_die event && is_died response
dies _ response = false

-- The desk was asked the item once, and this was its answer.
pub record Asks {D : Type 0} (answers : D → Item → Response → D → Type 0) (old : SessionState D) (item : Item)
    (response : Response) (new : SessionState D) : Type 0 where
  pub asked : answers old.desk item response new.desk
  pub connected : new.connected ≡ (makes_client item response || old.connected)
  pub over : new.over ≡ (dies item response || old.over)
  pub kind : new.kind ≡ old.kind

-- The desk was asked the item once, and its answer's line is written.
abbrev pub AsksOnce : {D : Type 0} → (D → Item → Response → D → Type 0) → SessionState D → Item → List ℕ
    → SessionState D → Type 0
AsksOnce answers old item text new = (response : Response) × Asks answers old item response new
    × (text ≡ response_text (reply_told item) response)

-- Nothing was asked, and these words are written.
abbrev pub SaysOnly : {D : Type 0} → SessionState D → List ℕ → List ℕ → SessionState D → Type 0
SaysOnly old words text new = (text ≡ words) × (new ≡ old)

-- In a session that goes on, an item is asked once if it is allowed.
abbrev pub TakesItem : {D : Type 0} → (D → Item → Response → D → Type 0) → SessionState D → Item → List ℕ
    → SessionState D → Type 0
TakesItem answers old item text new = MatchBool (is_asked old.kind old.connected item)
    (AsksOnce answers old item text new) (SaysOnly old (said_to item) text new)

-- In any session, an item is taken so: once a `bye` was answered by `bye`, nothing is asked and nothing written.
abbrev pub SitsThrough : {D : Type 0} → (D → Item → Response → D → Type 0) → SessionState D → Item → List ℕ
    → SessionState D → Type 0
SitsThrough answers old item text new = MatchBool old.over (SaysOnly old [] text new)
    (TakesItem answers old item text new)

-- The same with audit lines, of which a session has none.
abbrev pub AnswersItem : {D : Type 0} → (D → Item → Response → D → Type 0) → SessionState D → Item → List ℕ → List ℕ
    → SessionState D → Type 0
AnswersItem answers old item text audit new = SitsThrough answers old item text new × (audit ≡ [])

-- A session is over once a `bye` was answered by `bye`.
abbrev pub is_over : {D : Type 0} → SessionState D → Bool
is_over s = s.over

-- Fewer bytes of replies may be held back until all lines of one read are answered.
abbrev pub held_limit : ℕ
held_limit = 8192

-- This is a session before its first line.
abbrev pub begins : {D : Type 0} → Kind → D → SessionState D
begins kind desk = record { kind = kind; desk = desk; connected = false; over = false }

-- The desk was told once of the client's death, if a client was made; otherwise the desk is as it was.
abbrev pub TellsDeath : {D : Type 0} → (D → D → Type 0) → SessionState D → D → Type 0
TellsDeath death last desk = MatchBool last.connected (death last.desk desk) (desk ≡ last.desk)

-- A whole session has asked the desk this for the bytes that it read in this number of reads, has written this for
-- them, and has told the desk of the client's death so.
pub record Attends {D : Type 0} (kind : Kind) (answers : D → Item → Response → D → Type 0) (death : D → D → Type 0)
    (result : Result (Unit {0}) Fault) (bound reads : ℕ) (old : D) (r r_new w w_new : Option (List ℕ)) (new : D)
    : Type 0 where
  pub last : SessionState D
  pub served : Served kind (AnswersItem answers) is_over held_limit result bound reads (begins kind old) r r_new w
      w_new None None last
  -- An input that is answered whole is at its end, unless a `bye` was answered before.
  pub end : OnOk result (MatchBool last.over (Unit {0}) (IsAtEnd r_new))
  pub told : TellsDeath death last new

-- At most `bound` reads were made. A session reports a failed read or write, and reports one only if there was one; it
-- reports too many reads only after `bound` of them.
pub record Counts {R W : Type 0} (result : Result (Unit {0}) Fault) (bound : ℕ) (r r_new : Counted R)
    (w w_new : Counted W) : Type 0 where
  pub reads : calls_of r_new ≤ calls_of r + bound
  pub too_many : result ≡ Err TooManyReads → calls_of r_new ≡ min (calls_of r + bound) greatest_count
  pub read_fault : result ≡ Err ReadFault → failures_of r < failures_of r_new
  pub write_fault : result ≡ Err WriteFault → failures_of w < failures_of w_new
  pub read_told : failures_of r < failures_of r_new → result ≡ Err ReadFault
  pub write_told : failures_of w < failures_of w_new → result ≡ Err WriteFault
