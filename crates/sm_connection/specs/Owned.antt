-- The memory that a change adds to the journal, in bytes: an upper bound of what its entry owns.
use Rattle.std.specs.Prelude.{ℕ, ◌+◌, ◌*◌, ◌/◌, ◌-◌, ◌^◌, List, [], ◌∷◌, Option, Some, None, length, min}
use Rattle.std.specs.List.{fold}
use Rattle.sm_policy.specs.Policy.{Policy}
use Rattle.sm_policy.specs.Counting.{counts_of}
use Rattle.sm_policy.specs.declared.counts.Counts.{Counts}
use Rattle.sm_history.specs.declared.delivery.Delivery.{Delivery}
use Rattle.sm_history.specs.declared.delivery.Message.{Message, TheVariants.Called, TheVariants.Registered}
use Rattle.sm_history.specs.declared.denial.Denial.{Denial, TheVariants.Rule, TheVariants.App, TheVariants.Isolated}
use Rattle.sm_history.specs.declared.notice.Notice.{Notice}
use Rattle.sm_history.specs.declared.notice.Reason.{Reason, TheVariants.Denied, TheVariants.TargetFull}
use Rattle.sm_history.specs.declared.notice.Told.{Told, TheVariants.Told as IsTold, TheVariants.NotTold}
use Rattle.sm_history.specs.declared.event.Event.{Event}
use Rattle.sm_history.specs.declared.event.Event.TheVariants as events
use Rattle.sm_history.specs.declared.outcome.Outcome.{Outcome}
use Rattle.sm_history.specs.declared.outcome.Outcome.TheVariants as outcomes
use Rattle.sm_wire.specs.declared.request.Request.{Request}
use Rattle.sm_wire.specs.declared.request.Request.TheVariants as requests
use Rattle.sm_connection.specs.declared.command.Command.{Command}
use Rattle.sm_connection.specs.declared.command.Command.TheVariants.{Hello, Line, Install, Death}
use Rattle.sm_connection.specs.declared.owned.TheConstants.{ENTRY, TEXT, DELIVERY, LIST, REFERENCE, NOTICE, TURNS}
use Rattle.sm_connection.specs.declared.owned.TheConstants.{RULE, LABEL}

-- A sum, or the greatest number of 64 bits if that is less.
abbrev pub plus : ℕ → ℕ → ℕ
plus a b = min (a + b) (2 ^ 64 - 1)

-- A product, or the greatest number of 64 bits if that is less.
abbrev pub times : ℕ → ℕ → ℕ
times a b = min (a * b) (2 ^ 64 - 1)

-- A text that is shared has this many bytes with its counts.
abbrev pub text_bytes : List ℕ → ℕ
text_bytes text = plus (length text) TEXT

-- The references of a call have this many bytes.
abbrev pub reference_bytes : {T : Type 0} → List T → ℕ
reference_bytes refs = plus (times (length refs) REFERENCE) LIST

-- The content of a delivery has this many bytes.
abbrev pub message_bytes : Message → ℕ
message_bytes (Called pid uid payload refs) = plus (text_bytes payload) (reference_bytes refs)
message_bytes (Registered name given) = text_bytes name

-- A delivery has this many bytes.
abbrev pub delivery_bytes : Delivery → ℕ
delivery_bytes delivery = plus (message_bytes delivery.what) DELIVERY

-- The names of a denial have this many bytes.
abbrev pub denial_bytes : Denial → ℕ
denial_bytes (Rule source target class perm) = plus (text_bytes source) (text_bytes target)
denial_bytes (App uid) = 0
denial_bytes (Isolated uid) = 0

-- The reason not to notify a watcher has this many bytes.
abbrev pub reason_bytes : Reason → ℕ
reason_bytes (Denied denial) = denial_bytes denial
reason_bytes TargetFull = 0

-- What a watcher was told, or why it wasn't, has this many bytes.
abbrev pub told_bytes : Told → ℕ
told_bytes (IsTold delivery) = delivery_bytes delivery
told_bytes (NotTold reason) = reason_bytes reason

-- A notice has this many bytes.
abbrev pub notice_bytes : Notice → ℕ
notice_bytes notice = plus (told_bytes notice.result) NOTICE

-- These notices have this many bytes more.
abbrev pub with_notices : ℕ → List Notice → ℕ
with_notices bytes notices = fold (λ sum notice. plus sum (notice_bytes notice)) bytes notices

-- The notices of one change have this many bytes.
abbrev pub notices_bytes : List Notice → ℕ
notices_bytes [] = 0
notices_bytes (notice ∷ notices) = with_notices LIST (notice ∷ notices)

-- The notice of a watch has this many bytes, if there is one.
abbrev pub watched_bytes : Option Notice → ℕ
watched_bytes None = 0
watched_bytes (Some notice) = notice_bytes notice

-- A policy of these counts has about this many bytes: those of pairs of types, and those of rules and labels.
abbrev pub counted_bytes : Counts → ℕ
counted_bytes counts = plus (plus (times counts.types counts.types) (times counts.rules (plus (counts.types / 4) RULE)))
    (times counts.labels LABEL)

-- A policy has about this many bytes.
abbrev pub policy_bytes : Policy → ℕ
policy_bytes policy = counted_bytes (counts_of policy)

-- An event owns this many bytes.
abbrev pub event_bytes : Event → ℕ
event_bytes (events.Open who policy) = plus (text_bytes who.context) (policy_bytes policy)
event_bytes (events.Connect who) = text_bytes who.context
event_bytes (events.Add name obj allow dump) = text_bytes name
event_bytes (events.Get name) = text_bytes name
event_bytes (events.Watch name object) = text_bytes name
event_bytes (events.Unwatch name object) = text_bytes name
event_bytes (events.Unregister name obj) = text_bytes name
event_bytes (events.Call handle payload refs) = plus (text_bytes payload) (reference_bytes refs)
event_bytes (events.Release handle) = 0
event_bytes events.Take = 0
event_bytes events.Die = 0
event_bytes (events.Reload expected policy) = policy_bytes policy

-- An outcome owns this many bytes. A client that was connected also has a row among the numbers of changes.
abbrev pub outcome_bytes : Outcome → ℕ
outcome_bytes outcomes.Opened = 0
outcome_bytes (outcomes.Connected client) = TURNS
outcome_bytes (outcomes.Added notices) = notices_bytes notices
outcome_bytes (outcomes.Granted handle) = 0
outcome_bytes (outcomes.Watched notice) = watched_bytes notice
outcome_bytes (outcomes.Unwatched number) = 0
outcome_bytes outcomes.Unregistered = 0
outcome_bytes (outcomes.Sent delivery) = delivery_bytes delivery
outcome_bytes outcomes.Released = 0
outcome_bytes (outcomes.Taken delivery) = delivery_bytes delivery
outcome_bytes outcomes.Died = 0
outcome_bytes (outcomes.Reloaded version) = 0

-- The entry of a request, if it has one, has this many bytes without those of its outcome.
abbrev pub request_bytes : Request → ℕ
request_bytes (requests.Change client event) = plus (event_bytes event) ENTRY
request_bytes (requests.Hello who) = 0
request_bytes (requests.Look client query) = 0
request_bytes (requests.Reload expected rules contexts) = 0
request_bytes requests.Denials = 0
request_bytes requests.Seal = 0

-- The entry of a command, if it has one, has this many bytes without those of its outcome.
abbrev pub command_bytes : Command → ℕ
command_bytes (Hello who) = plus (text_bytes who.context) ENTRY
command_bytes (Line request) = request_bytes request
command_bytes (Install expected policy) = plus (policy_bytes policy) ENTRY
command_bytes Death = ENTRY
