-- What each call promises of the token with which it is made.
use Rattle.std.specs.Prelude.{true, false, ◌≡◌, ◌≢◌, ℕ, ◌+◌, ◌≤◌, ◌<◌, ◌⊎◌, List, [], All, length}
use Rattle.sm_values.specs.declared.identity.Identity.{Identity}
use Rattle.sm_history.specs.declared.by.By.{By, TheVariants.Manager, TheVariants.Client}
use Rattle.sm_history.specs.declared.event.Event.{Event, TheVariants.Connect}
use Rattle.sm_history.specs.declared.outcome.Outcome.{Outcome, TheVariants.Connected}
use Rattle.sm_history.specs.declared.query.Query.{Query}
use Rattle.sm_history.specs.declared.records.Record.{Record}
use Rattle.sm_history.specs.declared.refusal.Refusal.{Refusal}
use Rattle.sm_history.specs.declared.refusal.Refusal.TheVariants.{Failed, Memory, NoSeat, Empty}
use Rattle.sm_history.specs.declared.refusal.Failure.TheVariants.{NotYours, OutOfTurn}
use Rattle.sm_history.specs.declared.reply.Reply.{Reply}
use Rattle.sm_history.specs.declared.reply.Reply.TheVariants.{Done, GotNull, GotOwn, Looked, Sealed, Refused}
use Rattle.sm_history.specs.Books.{Book}
use Rattle.sm_history.specs.Histories.{History, turn_of}
use Rattle.sm_history.specs.Queries.{query_verdict}
use Rattle.sm_history.specs.Records.{IsTrueOnce}
use Rattle.sm_history.specs.Verdict.{verdict}
use Rattle.sm_history.specs.BookOrder.{Begins, IsLawfulBook, extended, sealed_book}
use Rattle.sm_history.specs.PossibleReplies.{tells_turn, takes_memory}
use Rattle.sm_history.specs.Steps.{entry_made}
use Rattle.sm_history.specs.Tokens.{Knows, Grows, keeps_turn, turn}

-- ---- changes

-- The event was done: the history that the token sees now ends with its change, which is one more of this actor. The
-- outcome is the verdict of the history before the change, which begins with all that the token had seen.
pub record Accepted (old new : Knows) (event : Event) (outcome : Outcome) : Type 0 where
  pub grows : Grows old new
  pub entered : old.reads < new.reads
  pub before : Book
  pub begins : Begins before old.seen
  pub ends : new.seen ≡ extended before (entry_made old.by (turn old) event outcome)
  pub verdict_is : verdict before.places before.history old.by (turn old) event ≡ Done outcome
  pub one_more : turn new ≡ turn old + 1

-- The event wasn't done: the answer is the verdict of the history that the token sees now. It has as many changes of
-- this actor as before; or another number, which is in the answer; or the actor isn't connected any more.
pub record NotDone (old new : Knows) (event : Event) (reply : Reply) : Type 0 where
  pub grows : Grows old new
  pub entered : old.reads < new.reads
  pub verdict_is : reply ≡ verdict new.seen.places new.seen.history old.by (turn old) event
  pub same_turn : tells_turn reply ≡ true → turn new ≡ turn old
  pub out_of_turn : (have : ℕ) → reply ≡ Refused (Failed (OutOfTurn have)) → (have ≡ turn new) × (have ≢ turn old)

-- The event isn't its actor's. Each history refuses it so, and the token stays as it is.
pub record IsNotIts (old new : Knows) (event : Event) (reply : Reply) : Type 0 where
  pub reply_is : reply ≡ Refused (Failed NotYours)
  pub verdict_is : reply ≡ verdict old.seen.places old.seen.history old.by (turn old) event
  pub same : new ≡ old

-- No change was made: an allocation failed, and the token stays as it is; or the event isn't its actor's; or it wasn't
-- done.
abbrev pub NotMade : Knows → Knows → Event → Reply → Type 0
NotMade old new event reply =
    ((reply ≡ Refused Memory) × (new ≡ old)) ⊎ (IsNotIts old new event reply ⊎ NotDone old new event reply)

-- This is what a token knows after its actor's event was answered.
abbrev pub Submitted : Knows → Knows → Event → Reply → Type 0
Submitted old new event (Done outcome) = Accepted old new event outcome
Submitted old new event GotNull = NotMade old new event GotNull
Submitted old new event (GotOwn o) = NotMade old new event (GotOwn o)
Submitted old new event (Looked v l a) = NotMade old new event (Looked v l a)
Submitted old new event (Sealed n l) = NotMade old new event (Sealed n l)
Submitted old new event (Refused refusal) = NotMade old new event (Refused refusal)

-- ---- reads

-- The answer is that of the query; or an allocation failed, for a query that allocates.
abbrev pub Looks : Book → By → Query → Reply → Type 0
Looks b by q reply = ((reply ≡ Refused Memory) × (takes_memory q ≡ true)) ⊎ (reply ≡ query_verdict b.history by q)

-- The actor made another number of changes, which is in the answer.
abbrev pub IsOutOfTurn : Book → By → ℕ → Reply → Type 0
IsOutOfTurn b by t reply =
    (turn_of b.history by ≢ t) × (reply ≡ Refused (Failed (OutOfTurn (turn_of b.history by))))

-- The actor made as many changes, and the answer is that of the query; or it made another number.
abbrev pub LooksInTurn : Book → By → ℕ → Query → Reply → Type 0
LooksInTurn b by t q reply = ((turn_of b.history by ≡ t) × Looks b by q reply) ⊎ IsOutOfTurn b by t reply

-- No reader slot was free, and the token stays as it is; or the published history was entered, which begins with all
-- that the token had seen, and the answer is given from it. It has as many changes of the actor as the token knew, or
-- the answer says how many it has.
abbrev pub Queried : Knows → Knows → Query → Reply → Type 0
Queried old new q reply =
    ((reply ≡ Refused NoSeat) × (new ≡ old))
    ⊎ (Grows old new × (new.reads ≡ old.reads + 1) × LooksInTurn new.seen old.by (turn old) q reply)

-- There are at most 1,024 records. Each is true of a lawful history with which the one begins that the token sees now.
pub record TellsRecords (old new : Knows) (records : List Record) : Type 0 where
  pub grows : Grows old new
  pub entered : old.reads < new.reads
  pub same_turn : keeps_turn old new ≡ true
  pub few : length records ≤ 1024
  pub true_records : All (IsTrueOnce new.seen.places new.seen.history) records

-- There are no records: an allocation failed, and the token stays as it is; or the history that it sees now has another
-- number of changes of the actor than it knew, and the refusal says how many.
abbrev pub NotTold : Knows → Knows → Refusal → Type 0
NotTold old new refusal =
    ((refusal ≡ Memory) × (new ≡ old))
    ⊎ (Grows old new × (old.reads < new.reads) × (keeps_turn old new ≡ false)
    × (refusal ≡ Failed (OutOfTurn (turn new))))

-- ---- seals

-- The segment was closed. It has changes, and belongs to a lawful book, which begins with all that the token had seen.
-- The token now sees the next segment, which has no change yet.
pub record Closed (old new : Knows) (segment : History) : Type 0 where
  pub grows : Grows old new
  pub entered : old.reads < new.reads
  pub before : Book
  pub lawful : IsLawfulBook before
  pub begins : Begins before old.seen
  pub segment_is : segment ≡ before.history
  pub some : segment.entries ≢ []
  pub opens : new.seen ≡ sealed_book before

-- No segment was closed: an allocation failed, or the segment that the token sees now has no changes.
pub record NotClosed (old new : Knows) (refusal : Refusal) : Type 0 where
  pub grows : Grows old new
  pub entered : old.reads < new.reads
  pub why : (refusal ≡ Memory) ⊎ ((refusal ≡ Empty) × (new.seen.history.entries ≡ []))

-- ---- connecting

-- The history that the session sees ends with the manager's change that connected its client. The outcome is the verdict
-- of the history before it, which begins with all that the seat had seen. So the change is a new one.
pub record Joined (old new : Knows) (who : Identity) : Type 0 where
  pub lawful : IsLawfulBook new.seen
  pub begins : Begins new.seen old.seen
  pub entered : old.reads < new.reads
  pub before : Book
  pub begins_before : Begins before old.seen
  pub number : ℕ
  pub by : new.by ≡ Client (record { 0 = number })
  pub ends : new.seen ≡ extended before
      (entry_made Manager (turn_of before.history Manager) (Connect who) (Connected (record { 0 = number })))
  pub verdict_is : verdict before.places before.history Manager (turn_of before.history Manager) (Connect who)
      ≡ Done (Connected (record { 0 = number }))

-- The client wasn't connected: an allocation failed, or this is the verdict of the history that the seat sees now.
pub record Turned (old new : Knows) (who : Identity) (refusal : Refusal) : Type 0 where
  pub grows : Grows old new
  pub entered : old.reads < new.reads
  pub why : (refusal ≡ Memory) ⊎ (Refused refusal
      ≡ verdict new.seen.places new.seen.history Manager (turn_of new.seen.history Manager) (Connect who))
