-- The audit records that come with answers.
use Rattle.std.specs.Prelude.{◌≡◌, ◌⊎◌, ◌+◌, ℕ, List, []}
use Rattle.sm_core.specs.Managed.{look_leaves, step_leaves}
use Rattle.sm_history.specs.Books.{Book}
use Rattle.sm_history.specs.Histories.{turn_of}
use Rattle.sm_history.specs.declared.by.By.{By}
use Rattle.sm_history.specs.declared.event.Event.{Event}
use Rattle.sm_history.specs.declared.query.Query.{Query}
use Rattle.sm_history.specs.declared.records.Record.{Record}
use Rattle.sm_history.specs.declared.refusal.Refusal.TheVariants.{NoSeat}
use Rattle.sm_history.specs.declared.reply.Reply.{Reply, TheVariants.Refused}
use Rattle.sm_history.specs.BookOrder.{Begins}
use Rattle.sm_history.specs.Promises.{IsOutOfTurn, Looks}
use Rattle.sm_history.specs.Steps.{book_after}
use Rattle.sm_history.specs.Tokens.{Grows, Knows, turn}

-- The records are those of the event, with this answer, in a book that begins with all that the token had seen. The
-- token now sees that book, with the event's change if the event was done.
pub record Logged (old new : Knows) (event : Event) (reply : Reply) (log : List Record) : Type 0 where
  pub before : Book
  pub begins : Begins before old.seen
  pub ends : new.seen ≡ book_after before old.by (turn old) event reply
  pub records : log ≡ step_leaves before old.by (turn old) event reply

-- The actor made as many changes, and the answer and the records are those of the query; or it made another number, and
-- there is no record.
abbrev pub LooksLogged : Book → By → ℕ → Query → Reply → List Record → Type 0
LooksLogged b by t q reply log =
    ((turn_of b.history by ≡ t) × Looks b by q reply × (log ≡ look_leaves b by q reply))
    ⊎ (IsOutOfTurn b by t reply × (log ≡ []))

-- The published history was entered, which begins with all that the token had seen. The answer and the records are
-- given from it.
abbrev pub ReadFrom : Knows → Knows → Query → Reply → List Record → Type 0
ReadFrom old new q reply log =
    Grows old new × (new.reads ≡ old.reads + 1) × LooksLogged new.seen old.by (turn old) q reply log

-- The same; or no reader slot was free, and there is no record.
abbrev pub ReadLogged : Knows → Knows → Query → Reply → List Record → Type 0
ReadLogged old new q reply log =
    ((reply ≡ Refused NoSeat) × (new ≡ old) × (log ≡ [])) ⊎ ReadFrom old new q reply log
