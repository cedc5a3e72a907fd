-- The reply lines.
use Rattle.std.specs.Prelude.{ℕ, List, [], ◌∷◌, ◌++◌, length, codes, Option, Some, None}
use Rattle.std.specs.List.{flat_map}
use Rattle.hex.specs.Hex.{encode_lower}
use Rattle.sm_values.specs.declared.class.Class.{Class, TheVariants.ServiceManager, TheVariants.Binder}
use Rattle.sm_values.specs.declared.perms.Perms.{Perms}
use Rattle.sm_values.specs.Messages.{access_words, name_text, numbered}
use Rattle.sm_policy.specs.declared.fault.PolicyFault.{PolicyFault}
use Rattle.sm_policy.specs.Refused.{refused_words}
use Rattle.sm_history.specs.declared.delivery.Given.{Given, TheVariants.Handle, TheVariants.Own, TheVariants.Null}
use Rattle.sm_history.specs.declared.delivery.Message.{Message, TheVariants.Called, TheVariants.Registered}
use Rattle.sm_history.specs.declared.denial.Denial.{Denial, TheVariants.Rule, TheVariants.App, TheVariants.Isolated}
use Rattle.sm_history.specs.declared.event.Event.TheVariants as events
use Rattle.sm_history.specs.declared.outcome.Outcome.{Outcome}
use Rattle.sm_history.specs.declared.outcome.Outcome.TheVariants.{Opened, Connected, Added, Granted, Watched, Unwatched}
use Rattle.sm_history.specs.declared.outcome.Outcome.TheVariants.{Unregistered, Sent, Released, Taken, Died, Reloaded}
use Rattle.sm_history.specs.declared.refusal.Exception.{Exception}
use Rattle.sm_history.specs.declared.refusal.Exception.TheVariants.{NotAdder, InvalidName, NullService, NullBinder}
use Rattle.sm_history.specs.declared.refusal.Exception.TheVariants.{DeadOwner, TableFull, NothingToUnregister}
use Rattle.sm_history.specs.declared.refusal.Exception.TheVariants.{NotRegistered, OtherObject, InUse}
use Rattle.sm_history.specs.declared.refusal.Failure.{Failure}
use Rattle.sm_history.specs.declared.refusal.Failure.TheVariants.{NotYours, NotConnected, OutOfTurn, BadHandle}
use Rattle.sm_history.specs.declared.refusal.Failure.TheVariants.{TargetFull}
use Rattle.sm_history.specs.declared.refusal.Refusal.{Refusal}
use Rattle.sm_history.specs.declared.refusal.Refusal.TheVariants as refusals
use Rattle.sm_history.specs.declared.records.Record.{Record}
use Rattle.sm_history.specs.declared.reply.Answer.{Answer, TheVariants.Names, TheVariants.Version, TheVariants.Why}
use Rattle.sm_history.specs.declared.reply.Reply.{Reply}
use Rattle.sm_history.specs.declared.reply.Reply.TheVariants.{Done, GotNull, GotOwn, Looked, Sealed, Refused}
use Rattle.sm_history.specs.Told.{told, told_to_get}
use Rattle.sm_audit.specs.AuditLines.{audit_line}
use Rattle.sm_wire.specs.declared.request.Request.{Request}
use Rattle.sm_wire.specs.declared.request.Request.TheVariants.{Hello, Change, Look, Reload, Denials, Seal}
use Rattle.sm_wire.specs.declared.telling.Telling.{Telling, TheVariants.Whole, TheVariants.ToGet}

-- A name is written after a space.
abbrev pub spaced_name : List ℕ → List ℕ
spaced_name name = codes " " ++ name_text name

-- This is `names VERSION LENGTH COUNT` and the names.
unfoldable pub names_text : ℕ → ℕ → List (List ℕ) → List ℕ
names_text version count names =
    numbered (codes "names ") version ++ numbered (codes " ") count ++ numbered (codes " ") (length names)
    ++ flat_map spaced_name names

-- This is `allowed VERSION LINE` or `unwritten VERSION`.
unfoldable pub why_text : ℕ → Option ℕ → List ℕ
why_text version (Some line) = numbered (codes "allowed ") version ++ numbered (codes " ") line
why_text version None = numbered (codes "unwritten ") version

-- This is the answer to a query.
unfoldable pub answer_text : ℕ → ℕ → Answer → List ℕ
answer_text version count (Names names) = names_text version count names
answer_text version count Version = numbered (codes "version ") version ++ numbered (codes " ") count
answer_text version count (Why line) = why_text version line

-- This is `hN`, `oN` or `null`.
unfoldable pub given_text : Given → List ℕ
given_text (Handle n) = numbered (codes "h") n
given_text (Own n) = numbered (codes "o") n
given_text Null = codes "null"

-- A reference is written after a space.
abbrev pub spaced_given : Given → List ℕ
spaced_given given = codes " " ++ given_text given

-- This is two lower-case hexadecimal digits for each byte, or `-` for none.
unfoldable pub payload_text : List ℕ → List ℕ
payload_text [] = codes "-"
payload_text (b ∷ bs) = encode_lower (b ∷ bs)

-- This is `call oO PID UID` and a space.
unfoldable pub caller_text : ℕ → ℕ → ℕ → List ℕ
caller_text object pid uid =
    numbered (codes "call o") object ++ numbered (codes " ") pid ++ numbered (codes " ") uid ++ codes " "

-- This is `registered oO NAME REF`.
unfoldable pub registered_text : ℕ → List ℕ → Given → List ℕ
registered_text object name given =
    numbered (codes "registered o") object ++ spaced_name name ++ spaced_given given

-- This is `call oO PID UID PAYLOAD` and the references, or `registered oO NAME REF`.
unfoldable pub message_text : ℕ → Message → List ℕ
message_text object (Called pid uid payload refs) = caller_text object pid uid ++ payload_text payload
    ++ flat_map spaced_given refs
message_text object (Registered name given) = registered_text object name given

-- This is the answer to a change that was done.
unfoldable pub outcome_text : Outcome → List ℕ
outcome_text Opened = codes "ok"
outcome_text (Connected client) = numbered (codes "client ") client.0
outcome_text (Added notices) = codes "ok"
outcome_text (Granted handle) = numbered (codes "handle ") handle
outcome_text (Watched notice) = codes "ok"
outcome_text (Unwatched count) = codes "ok"
outcome_text Unregistered = codes "ok"
outcome_text (Sent delivery) = codes "ok"
outcome_text Released = codes "ok"
outcome_text (Taken delivery) = message_text delivery.object delivery.what
outcome_text Died = codes "bye"
outcome_text (Reloaded version) = numbered (codes "reloaded ") version

-- This is an exception with binder's code.
abbrev pub exception_text : Exception → List ℕ
exception_text NotAdder = codes "exception -1 not-adder"
exception_text InvalidName = codes "exception -3 invalid-name"
exception_text NullService = codes "exception -3 null-binder"
exception_text NullBinder = codes "exception -4 null-binder"
exception_text DeadOwner = codes "exception -5 dead-owner"
exception_text TableFull = codes "exception -5 table-full"
exception_text NothingToUnregister = codes "exception -5 nothing-to-unregister"
exception_text NotRegistered = codes "exception -5 not-registered"
exception_text OtherObject = codes "exception -5 other-object"
exception_text InUse = codes "exception -5 in-use"

-- This is a failure.
unfoldable pub failure_text : Failure → List ℕ
failure_text NotYours = codes "failed not-yours"
failure_text NotConnected = codes "failed not-connected"
failure_text (OutOfTurn have) = numbered (codes "failed out-of-turn ") have
failure_text BadHandle = codes "failed bad-handle"
failure_text TargetFull = codes "failed target-full"

-- A missing rule of `service_manager` is the exception EX_SECURITY, one of `binder` a failed transaction.
abbrev pub denied_by : Class → List ℕ
denied_by ServiceManager = codes "exception -1 denied "
denied_by Binder = codes "failed denied "

-- This is a missing rule.
unfoldable pub rule_text : List ℕ → List ℕ → Class → Perms → List ℕ
rule_text source target class perm = denied_by class ++ access_words source target class perm

-- This is a denial.
unfoldable pub denial_text : Denial → List ℕ
denial_text (Rule source target class perm) = rule_text source target class perm
denial_text (App uid) = numbered (codes "exception -1 app ") uid
denial_text (Isolated uid) = numbered (codes "exception -1 isolated ") uid

-- This is a refusal.
unfoldable pub refusal_text : Refusal → List ℕ
refusal_text (refusals.Denied denial) = denial_text denial
refusal_text (refusals.Exception exception) = exception_text exception
refusal_text (refusals.Failed failure) = failure_text failure
refusal_text refusals.Dead = codes "dead"
refusal_text refusals.Empty = codes "empty"
refusal_text refusals.TooManyClients = codes "failed too-many-clients"
refusal_text (refusals.VersionMoved now) = numbered (codes "moved ") now
refusal_text refusals.JournalFull = codes "failed journal-full"
refusal_text refusals.Memory = codes "failed memory"
refusal_text refusals.NoSeat = codes "failed no-seat"

-- This is `sealed NUMBER LENGTH`.
unfoldable pub sealed_text : ℕ → ℕ → List ℕ
sealed_text number count = numbered (codes "sealed ") number ++ numbered (codes " ") count

-- This is a reply without its newline.
unfoldable pub answered_text : Reply → List ℕ
answered_text (Done outcome) = outcome_text outcome
answered_text GotNull = codes "null"
answered_text (GotOwn object) = numbered (codes "own ") object
answered_text (Looked version count answer) = answer_text version count answer
answered_text (Sealed number count) = sealed_text number count
answered_text (Refused refusal) = refusal_text refusal

-- This is the line of the visible part of a reply.
unfoldable pub told_text : Reply → List ℕ
told_text reply = answered_text reply ++ codes "\n"

-- This is the visible part of a reply to a request.
abbrev pub visible_reply : Request → Reply → Reply
visible_reply (Hello who) reply = told (events.Connect who) reply
visible_reply (Change client event) reply = told event reply
visible_reply (Look client query) reply = reply
visible_reply (Reload expected rules contexts) reply = reply
visible_reply Denials reply = reply
visible_reply Seal reply = reply

-- This is the visible part of a reply, by its visibility.
abbrev pub told_in : Telling → Reply → Reply
told_in Whole reply = reply
told_in ToGet reply = told_to_get reply

-- This is the line of a reply to a request.
abbrev pub reply_text : Request → Reply → List ℕ
reply_text request reply = told_text (visible_reply request reply)

-- This is `denials K`, and then K audit lines.
unfoldable pub denials_text : List Record → List ℕ
denials_text records = numbered (codes "denials ") (length records) ++ codes "\n" ++ flat_map audit_line records

-- This is the line for a policy that is refused.
unfoldable pub policy_refused_text : PolicyFault → List ℕ
policy_refused_text fault = codes "refused " ++ refused_words fault ++ codes "\n"
