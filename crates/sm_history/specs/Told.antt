-- The visible part of a reply.
use Rattle.std.specs.Prelude.{Bool, true, false, ◌&&◌, ◌==◌, if◌then◌else◌}
use Rattle.sm_values.specs.declared.class.Class.{Class, TheVariants.ServiceManager, TheVariants.Binder}
use Rattle.sm_history.specs.declared.denial.Denial.{Denial, TheVariants.Rule, TheVariants.App, TheVariants.Isolated}
use Rattle.sm_history.specs.declared.event.Event.{Event, TheVariants.Get}
use Rattle.sm_history.specs.declared.refusal.Refusal.{Refusal, TheVariants.Denied}
use Rattle.sm_history.specs.declared.reply.Reply.{Reply, TheVariants.GotNull, TheVariants.Refused}
use Rattle.sm_history.specs.Checks.{finding}

-- A class is service_manager.
abbrev pub is_service_manager : Class → Bool
is_service_manager ServiceManager = true
is_service_manager Binder = false

-- A denial is hidden from a Get: `find` is missing, or the service isn't for isolated processes.
abbrev pub is_hidden_denial : Denial → Bool
is_hidden_denial (Rule source target class perm) = is_service_manager class && (perm.0 == finding.0)
is_hidden_denial (App uid) = false
is_hidden_denial (Isolated uid) = true

-- A refusal is such a denial.
abbrev pub is_hidden_refusal : Refusal → Bool
is_hidden_refusal (Denied denial) = is_hidden_denial denial
is_hidden_refusal _ = false

-- A reply is hidden from a Get, which is answered that nothing was found (`ServiceManager.cpp`, `tryGetService`).
abbrev pub is_hidden : Reply → Bool
is_hidden (Refused refusal) = is_hidden_refusal refusal
is_hidden _ = false

-- A Get is answered this in place of a reply.
abbrev pub told_to_get : Reply → Reply
told_to_get reply = if is_hidden reply then GotNull else reply

-- The actor of an event is answered this: a Get's hidden denial becomes `GotNull`, any other reply stays as it is.
abbrev pub told : Event → Reply → Reply
told (Get name) reply = told_to_get reply
told _ reply = reply
