-- The answer to each event: that of the first check that fails, otherwise the event's outcome.
--
-- The checks follow Android 14: first the binder driver with its SELinux hooks, then the function of servicemanager.
-- Sources: frameworks/native/cmds/servicemanager, ServiceManager.cpp and Access.cpp (android-14.0.0); Linux,
-- drivers/android/binder.c and security/selinux/hooks.c. "Own" marks a check, or its position, that is this project's
-- own.
use Rattle.std.specs.Prelude.{ℕ, ◌+◌, Bool, true, false, ◌&&◌, ◌||◌, not, ◌==◌, nat_lt, nat_le, List, [], ◌∷◌, ◌++◌}
use Rattle.std.specs.Prelude.{Option, Some, None, is_some, length, count_by}
use Rattle.std.specs.List.{list_any}
use Rattle.sm_values.specs.declared.number.Node.{Node}
use Rattle.sm_values.specs.declared.number.ObjRef.{ObjRef, TheVariants.Null as NullRef}
use Rattle.sm_values.specs.Names.{is_valid_name}
use Rattle.sm_values.specs.Users.{is_barred, is_isolated_user}
use Rattle.sm_history.specs.FailedChecks.{FailedCheck}
use Rattle.sm_history.specs.declared.by.By.{By, TheVariants.Manager, TheVariants.Client, TheVariants.Admin}
use Rattle.sm_history.specs.declared.event.Event.{Event}
use Rattle.sm_history.specs.declared.event.Event.TheVariants.{Open, Connect, Add, Get, Watch as WatchName, Unwatch}
use Rattle.sm_history.specs.declared.event.Event.TheVariants.{Unregister, Call, Release, Take, Die, Reload}
use Rattle.sm_history.specs.declared.outcome.Outcome.{Outcome}
use Rattle.sm_history.specs.declared.outcome.Outcome.TheVariants.{Opened, Connected, Added, Granted, Watched, Unwatched}
use Rattle.sm_history.specs.declared.outcome.Outcome.TheVariants.{Unregistered, Sent, Released, Taken, Died, Reloaded}
use Rattle.sm_history.specs.declared.denial.Denial.TheVariants.{App, Isolated}
use Rattle.sm_history.specs.declared.refusal.Refusal.TheVariants.{Exception, Failed, Dead, Empty, TooManyClients}
use Rattle.sm_history.specs.declared.refusal.Refusal.TheVariants.{VersionMoved, JournalFull}
use Rattle.sm_history.specs.declared.refusal.Failure.TheVariants.{NotYours, NotConnected, OutOfTurn, BadHandle}
use Rattle.sm_history.specs.declared.refusal.Failure.TheVariants.{TargetFull}
use Rattle.sm_history.specs.declared.refusal.Exception.TheVariants.{NotAdder, InvalidName, NullService, NullBinder}
use Rattle.sm_history.specs.declared.refusal.Exception.TheVariants.{DeadOwner, TableFull, NothingToUnregister}
use Rattle.sm_history.specs.declared.refusal.Exception.TheVariants.{NotRegistered, OtherObject, InUse}
use Rattle.sm_history.specs.declared.reply.Reply.{Reply, TheVariants.Done}
use Rattle.sm_history.specs.EarlyAnswers.{GotNull, GotOwn, Refused}
use Rattle.sm_history.specs.declared.delivery.Delivery.{Delivery}
use Rattle.sm_history.specs.declared.notice.Notice.{Notice}
use Rattle.sm_history.specs.Effects.{Effects, Service, Watch, Adds, Watches, same_node}
use Rattle.sm_history.specs.Clients.{policy_at, version_at, identity_at, is_live, live_clients, next_client}
use Rattle.sm_history.specs.Holdings.{resolve_at, node_at, handed, number_for, fits_handles, is_in_use, counts_fit}
use Rattle.sm_history.specs.Services.{service_at, watchers_at, watches_at, same_watch, has_name_room}
use Rattle.sm_history.specs.Inboxes.{inbox_at, has_inbox_room}
use Rattle.sm_history.specs.Checks.{Check, Spares, Wants, answer_of, first_failing, to_manager, from_manager}
use Rattle.sm_history.specs.Checks.{to_client, to_label, adding, finding, calling, transferring}
use Rattle.sm_history.specs.Notices.{notice_at, notices_at}
use Rattle.sm_history.specs.Histories.{History, turn_of, client_of, found, handed_refs, call_delivery, service, watch}
use Rattle.sm_history.specs.Histories.{effects_of, length_of, after_event}
use Rattle.sm_history.specs.declared.limits.TheConstants.{MOST_WATCHES, MOST_CLIENTS, LAST_CLIENT, GREATEST}

-- An application can't add a service: addService, `multiuser_get_app_id(ctx.uid) >= AID_APP`.
abbrev pub not_barred : Effects → ℕ → List ℕ → Check
not_barred d c name = let who = identity_at d c in Spares (not (is_barred who.uid)) (App who.uid) who name

-- An isolated process is refused where the flag is set: the app id is from AID_ISOLATED_START to AID_ISOLATED_END.
-- tryGetService checks this for a service that wasn't added with allowIsolated, registerForNotifications for every
-- name.
abbrev pub not_isolated : Effects → ℕ → List ℕ → Bool → Check
not_isolated d c name matters = let who = identity_at d c in
    Spares (not (is_isolated_user who.uid && matters)) (Isolated who.uid) who name

-- A reference names an object, and may be passed from client c to the manager, or to client k. A null passes.
-- binder.c: binder_translate_binder and binder_translate_handle, which ask selinux_binder_transfer_binder for the
-- permission `transfer`.
abbrev pub passes_to_manager : Effects → ℕ → ObjRef → List Check
passes_to_manager d c NullRef = []
passes_to_manager d c r = Wants (is_some (resolve_at d c r)) (Refused (Failed BadHandle)) ∷ to_manager d c
    transferring ∷ []

-- The same holds for passing it to client k.
abbrev pub passes_to_client : Effects → ℕ → ℕ → ObjRef → List Check
passes_to_client d c k NullRef = []
passes_to_client d c k r = Wants (is_some (resolve_at d c r)) (Refused (Failed BadHandle)) ∷ to_client d c k
    transferring ∷ []

-- Each of these references may be passed to client k.
abbrev pub all_pass_to_client : Effects → ℕ → ℕ → List ObjRef → List Check
all_pass_to_client d c k [] = []
all_pass_to_client d c k (r ∷ rs) = passes_to_client d c k r ++ all_pass_to_client d c k rs

-- A reference is null.
abbrev pub is_null : ObjRef → Bool
is_null NullRef = true
is_null _ = false

-- An object's owner is live.
abbrev pub owner_lives : Effects → Node → Bool
owner_lives d n = is_live d n.owner.0

-- A condition on the service of a name; it fails if the name has no service.
abbrev pub service_meets : (Service → Bool) → Option Service → Bool
service_meets p None = false
service_meets p (Some s) = p s

-- These are the checks of an Add after its reference: addService, from the check of the app id on. The object's owner
-- must be alive, where Android's linkToDeath fails. Own: the number of names is limited. Not modelled: the VINTF
-- declaration (meetsDeclarationRequirements) and the default dump priority.
abbrev pub naming_checks : Effects → ℕ → List ℕ → ObjRef → List Check
naming_checks d c name obj =
    not_barred d c name
    ∷ to_label d c name adding
    ∷ Wants (not (is_null obj)) (Refused (Exception NullService))
    ∷ Wants (is_valid_name name) (Refused (Exception InvalidName))
    ∷ Wants (owner_lives d (found (resolve_at d c obj))) (Refused (Exception DeadOwner))
    ∷ Wants (has_name_room d name) (Refused (Exception TableFull))
    ∷ []

-- `call` is selinux_binder_transaction's permission for the transaction to servicemanager.
abbrev pub add_checks : Effects → ℕ → List ℕ → ObjRef → List Check
add_checks d c name obj = to_manager d c calling ∷ passes_to_manager d c obj ++ naming_checks d c name obj

-- These are the checks of a Get that found a service: its own object comes back as itself, and another needs a handle
-- (binder.c, binder_translate_handle: a node of the target process is translated to its BINDER_TYPE_BINDER).
abbrev pub handing_checks : Effects → ℕ → Option Service → List Check
handing_checks d c None = []
handing_checks d c (Some s) =
    Wants (not (s.node.owner.0 == c)) (GotOwn s.node.object)
    ∷ Wants (fits_handles (handed d c s.node) c) (Refused (Failed TargetFull))
    ∷ []

-- tryGetService: the clause on isolated processes is checked if there is a service, then canFind. The manager passes
-- the reply's reference, so it needs `transfer` to the client.
abbrev pub get_checks : Effects → ℕ → List ℕ → List Check
get_checks d c name =
    to_manager d c calling
    ∷ not_isolated d c name (service_meets (λ s. not s.allow_isolated) (service_at d name))
    ∷ to_label d c name finding
    ∷ Wants (is_some (service_at d name)) GotNull
    ∷ from_manager d c transferring
    ∷ handing_checks d c (service_at d name)

-- registerForNotifications: the callback is the client's own object, so it is passed to the manager first. Own: a
-- missing `find` is reported before the isolated clause, which Android checks first; the number of watches is limited.
abbrev pub watch_checks : Effects → ℕ → List ℕ → List Check
watch_checks d c name =
    to_manager d c calling
    ∷ to_manager d c transferring
    ∷ to_label d c name finding
    ∷ not_isolated d c name true
    ∷ Wants (is_valid_name name) (Refused (Exception InvalidName))
    ∷ Wants (nat_lt (length (watches_at d)) MOST_WATCHES) (Refused (Exception TableFull))
    ∷ []

-- unregisterForNotifications checks canFind and nothing else of the name.
abbrev pub unwatch_checks : Effects → ℕ → List ℕ → ℕ → List Check
unwatch_checks d c name object =
    to_manager d c calling
    ∷ to_manager d c transferring
    ∷ to_label d c name finding
    ∷ Wants (list_any (same_watch (watch c name object)) (watches_at d)) (Refused (Exception NothingToUnregister))
    ∷ []

-- tryUnregisterService: Android compares the process that added the service by its pid (debugPid), and asks the driver
-- for the number of clients (handleServiceClientCallback); here they are the client's number and the handles of others
-- to the object.
abbrev pub unregister_checks : Effects → ℕ → List ℕ → ObjRef → List Check
unregister_checks d c name obj =
    to_manager d c calling
    ∷ passes_to_manager d c obj
    ++ Wants (not (is_null obj)) (Refused (Exception NullBinder))
    ∷ to_label d c name adding
    ∷ Wants (is_some (service_at d name)) (Refused (Exception NotRegistered))
    ∷ Wants (service_meets (λ s. s.adder == c) (service_at d name)) (Refused (Exception NotAdder))
    ∷ Wants (service_meets (λ s. same_node s.node (found (resolve_at d c obj))) (service_at d name))
    (Refused (Exception OtherObject))
    ∷ Wants (not (is_in_use d c (found (resolve_at d c obj)))) (Refused (Exception InUse))
    ∷ []

-- These are the checks on a call of an object that was found: binder.c, binder_transaction. A dead target is
-- BR_DEAD_REPLY; selinux_binder_transaction asks for `call`, then each reference is translated. Own: inboxes and handle
-- tables have a fixed size, where the driver has the buffer of the target process.
abbrev pub object_checks : Effects → ℕ → List ObjRef → Node → List Check
object_checks d c refs n =
    Wants (owner_lives d n) (Refused Dead)
    ∷ to_client d c n.owner.0 calling
    ∷ all_pass_to_client d c n.owner.0 refs
    ++ Wants (has_inbox_room d n.owner.0 && fits_handles (handed_refs d c n.owner.0 refs) n.owner.0)
    (Refused (Failed TargetFull))
    ∷ []

-- The handle is looked up first (binder_get_ref_olocked); an unknown one is BR_FAILED_REPLY.
abbrev pub call_checks : Effects → ℕ → ℕ → List ObjRef → List Check
call_checks d c handle refs =
    Wants (is_some (node_at d c handle)) (Refused (Failed BadHandle)) ∷ object_checks d c refs
    (found (node_at d c handle))

-- An event of client c has these checks, in order.
abbrev pub event_checks : Effects → ℕ → Event → List Check
event_checks d c (Open who policy) = []
event_checks d c (Connect who) =
    Wants (nat_lt (length (live_clients d)) MOST_CLIENTS && nat_le (next_client d) LAST_CLIENT)
    (Refused TooManyClients) ∷ []
event_checks d c (Add name obj allow dump) = add_checks d c name obj
event_checks d c (Get name) = get_checks d c name
event_checks d c (WatchName name object) = watch_checks d c name
event_checks d c (Unwatch name object) = unwatch_checks d c name object
event_checks d c (Unregister name obj) = unregister_checks d c name obj
event_checks d c (Call handle payload refs) = call_checks d c handle refs
event_checks d c (Release handle) = Wants (is_some (node_at d c handle)) (Refused (Failed BadHandle)) ∷ []
event_checks d c Take = Wants (nat_lt 0 (length (inbox_at d c))) (Refused Empty) ∷ []
event_checks d c Die = []
event_checks d c (Reload expected policy) = Wants (version_at d == expected)
    (Refused (VersionMoved (version_at d))) ∷ []

-- An actor may make an event. No one opens a manager again.
abbrev pub is_theirs : By → Event → Bool
is_theirs by (Open who policy) = false
is_theirs Manager (Connect who) = true
is_theirs Manager _ = false
is_theirs (Client c) (Connect who) = false
is_theirs (Client c) (Reload expected policy) = false
is_theirs (Client c) _ = true
is_theirs (Admin a) (Reload expected policy) = true
is_theirs (Admin a) _ = false

-- An actor is there: it isn't a client, or is a live one.
abbrev pub is_there : Effects → By → Bool
is_there d (Client c) = is_live d c.0
is_there d _ = true

-- An event has these checks of its actor.
abbrev pub actor_checks : History → By → ℕ → Event → List Check
actor_checks h by turn event =
    Wants (is_theirs by event) (Refused (Failed NotYours))
    ∷ Wants (is_there (effects_of h) by) (Refused (Failed NotConnected))
    ∷ Wants (turn == turn_of h by) (Refused (Failed (OutOfTurn (turn_of h by))))
    ∷ []

-- An event needs this number of journal slots besides those kept for the deaths of live clients.
abbrev pub places_needed : Event → ℕ
places_needed (Connect who) = 2
places_needed _ = 1

-- An event is a death.
abbrev pub is_die : Event → Bool
is_die Die = true
is_die _ = false

-- The length, with an event and the deaths still to come, is below the greatest number.
abbrev pub has_length_room : History → Event → Bool
has_length_room h event = nat_lt (length_of h + length (live_clients (effects_of h)) + places_needed event) GREATEST

-- An event of client c has its slot, and no length and no count of grants reaches the greatest number. A death uses the
-- slot that was kept for it.
abbrev pub has_place : ℕ → History → ℕ → Event → Bool
has_place places h c event =
    is_die event
    || (nat_le (length h.entries + length (live_clients (effects_of h)) + places_needed event) places
    && has_length_room h event && counts_fit (after_event (effects_of h) c event))

-- An event has these checks.
abbrev pub checks : ℕ → History → By → ℕ → Event → List Check
checks places h by turn event =
    actor_checks h by turn event ++ event_checks (effects_of h) (client_of by) event
    ++ Wants (has_place places h (client_of by) event) (Refused JournalFull) ∷ []

-- This is the notice for a new watch, if the name has a service.
abbrev pub notice_of_watch : Effects → Watch → Option Service → Option Notice
notice_of_watch d w None = None
notice_of_watch d w (Some s) = Some (notice_at d s.node w)

-- This is the number of the handle for a service.
abbrev pub handle_number : Effects → ℕ → Option Service → ℕ
handle_number d c None = 0
handle_number d c (Some s) = number_for d c s.node

-- This is the first of some deliveries; an earlier check has made sure that there is one.
abbrev pub taken : List Delivery → Delivery → Delivery
taken [] none = none
taken (x ∷ xs) none = x

-- This is the outcome of an event of client c that passes all checks.
abbrev pub outcome_of : Effects → ℕ → Event → Outcome
outcome_of d c (Open who policy) = Opened
outcome_of d c (Connect who) = Connected (record { 0 = next_client d })
outcome_of d c (Add name obj allow dump) = let n = found (resolve_at d c obj) in
    Added (notices_at (Adds name (service c n allow dump) ∷ d) n (watchers_at d name))
outcome_of d c (Get name) = Granted (handle_number d c (service_at d name))
outcome_of d c (WatchName name object) =
    Watched (notice_of_watch (Watches (watch c name object) ∷ d) (watch c name object) (service_at d name))
outcome_of d c (Unwatch name object) = Unwatched (count_by (same_watch (watch c name object)) (watches_at d))
outcome_of d c (Unregister name obj) = Unregistered
outcome_of d c (Call handle payload refs) = Sent (call_delivery d c (found (node_at d c handle)) payload refs)
outcome_of d c (Release handle) = Released
outcome_of d c Take = Taken (taken (inbox_at d c) (call_delivery [] 0 (found None) [] []))
outcome_of d c Die = Died
outcome_of d c (Reload expected policy) = Reloaded (version_at d + 1)

-- An event is answered so, if this check failed or none did.
abbrev pub answered : Option FailedCheck → Outcome → Reply
answered None outcome = Done outcome
answered (Some failing) outcome = answer_of failing

-- This is the answer to an event.
abbrev pub verdict : ℕ → History → By → ℕ → Event → Reply
verdict places h by turn event =
    answered (first_failing (policy_at (effects_of h)) (checks places h by turn event))
    (outcome_of (effects_of h) (client_of by) event)
