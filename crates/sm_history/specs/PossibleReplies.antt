-- The possible answers to single requests.
use Rattle.std.specs.Prelude.{Bool, true, false}
use Rattle.sm_history.specs.declared.outcome.Outcome.TheVariants.{Connected, Died, Reloaded}
use Rattle.sm_history.specs.declared.query.Query.{Query}
use Rattle.sm_history.specs.declared.query.Query.TheVariants.{List as ListNames, Version as AskVersion, Explain}
use Rattle.sm_history.specs.declared.refusal.Refusal.{Refusal}
use Rattle.sm_history.specs.declared.refusal.Refusal.TheVariants.{Failed, TooManyClients, VersionMoved, JournalFull}
use Rattle.sm_history.specs.declared.refusal.Refusal.TheVariants.{Memory}
use Rattle.sm_history.specs.declared.refusal.Failure.{Failure}
use Rattle.sm_history.specs.declared.refusal.Failure.TheVariants.{NotYours, NotConnected, OutOfTurn}
use Rattle.sm_history.specs.declared.reply.Reply.{Reply, TheVariants.Done, TheVariants.Refused}

-- A failure says that the event had the turn of its actor: the checks of the actor come before it.
abbrev pub failure_tells_turn : Failure → Bool
failure_tells_turn NotConnected = false
failure_tells_turn (OutOfTurn n) = false
failure_tells_turn _ = true

-- A refusal says so.
abbrev pub refusal_tells_turn : Refusal → Bool
refusal_tells_turn (Failed failure) = failure_tells_turn failure
refusal_tells_turn _ = true

-- An answer says so.
abbrev pub tells_turn : Reply → Bool
tells_turn (Refused refusal) = refusal_tells_turn refusal
tells_turn _ = true

-- The token sees the history that gave the refusal. After a failed allocation it knows what it knew, and an event that
-- isn't its actor's is refused in the same way on each history.
abbrev pub refusal_moves : Refusal → Bool
refusal_moves Memory = false
refusal_moves (Failed NotYours) = false
refusal_moves _ = true

-- The token sees the history that answered.
abbrev pub moves : Reply → Bool
moves (Refused refusal) = refusal_moves refusal
moves _ = true

-- The answer to a query allocates: for the listed names, or for those in a denial.
abbrev pub takes_memory : Query → Bool
takes_memory (ListNames mask) = true
takes_memory AskVersion = false
takes_memory (Explain s t class perm) = false

-- A process may be refused to connect for these reasons.
abbrev pub OfConnect : Refusal → Type 0
OfConnect TooManyClients = Unit {0}
OfConnect JournalFull = Unit {0}
OfConnect Memory = Unit {0}
OfConnect _ = ⊥

-- A client that dies may be out of turn, or not connected any more.
abbrev pub FailsDeath : Failure → Type 0
FailsDeath NotConnected = Unit {0}
FailsDeath (OutOfTurn n) = Unit {0}
FailsDeath _ = ⊥

-- A client's death may be refused for these reasons. Its journal slot is kept for it.
abbrev pub OfDeath : Refusal → Type 0
OfDeath (Failed failure) = FailsDeath failure
OfDeath Memory = Unit {0}
OfDeath _ = ⊥

-- An administrator's change may be out of turn.
abbrev pub FailsInstall : Failure → Type 0
FailsInstall (OutOfTurn n) = Unit {0}
FailsInstall _ = ⊥

-- A policy may be refused to be replaced for these reasons.
abbrev pub OfInstall : Refusal → Type 0
OfInstall (Failed failure) = FailsInstall failure
OfInstall (VersionMoved n) = Unit {0}
OfInstall JournalFull = Unit {0}
OfInstall Memory = Unit {0}
OfInstall _ = ⊥

-- A Connect by the manager has one of these answers.
abbrev pub ConnectReply : Reply → Type 0
ConnectReply (Done (Connected c)) = Unit {0}
ConnectReply (Refused refusal) = OfConnect refusal
ConnectReply _ = ⊥

-- A client's Die has one of these answers.
abbrev pub DeathReply : Reply → Type 0
DeathReply (Done Died) = Unit {0}
DeathReply (Refused refusal) = OfDeath refusal
DeathReply _ = ⊥

-- An administrator's Reload has one of these answers.
abbrev pub InstallReply : Reply → Type 0
InstallReply (Done (Reloaded v)) = Unit {0}
InstallReply (Refused refusal) = OfInstall refusal
InstallReply _ = ⊥
