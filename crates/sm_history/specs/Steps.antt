-- What one step of the manager does to its book, and what a seal does.
use Rattle.std.specs.Prelude.{◌≡◌, ◌≢◌, ◌⊎◌, ℕ, []}
use Rattle.sm_history.specs.declared.by.By.{By}
use Rattle.sm_history.specs.declared.event.Event.{Event}
use Rattle.sm_history.specs.declared.outcome.Outcome.{Outcome}
use Rattle.sm_history.specs.declared.entry.Entry.{Entry}
use Rattle.sm_history.specs.declared.refusal.Refusal.{Refusal, TheVariants.Memory, TheVariants.Empty}
use Rattle.sm_history.specs.declared.reply.Reply.{Reply}
use Rattle.sm_history.specs.declared.reply.Reply.TheVariants.{Done, GotNull, GotOwn, Looked, Sealed, Refused}
use Rattle.sm_history.specs.Books.{Book}
use Rattle.sm_history.specs.Histories.{History, entered, length_of}
use Rattle.sm_history.specs.Verdict.{verdict}
use Rattle.sm_history.specs.BookOrder.{sealed_book}

-- This is the change that an actor made at this turn.
abbrev pub entry_made : By → ℕ → Event → Outcome → Entry
entry_made by turn event outcome = record { by = by; turn = turn; event = event; outcome = outcome }

-- This is the history after an answer: one more change if the event was done.
abbrev pub history_after : History → By → ℕ → Event → Reply → History
history_after h by turn event (Done outcome) = entered (entry_made by turn event outcome) h
history_after h by turn event GotNull = h
history_after h by turn event (GotOwn o) = h
history_after h by turn event (Looked v l a) = h
history_after h by turn event (Sealed n l) = h
history_after h by turn event (Refused r) = h

-- This is the book after an answer.
abbrev pub book_after : Book → By → ℕ → Event → Reply → Book
book_after b by turn event reply =
    record { places = b.places; history = history_after b.history by turn event reply }

-- The answer is the verdict, and the book goes on by it; or an allocation failed, and nothing changed.
abbrev pub Steps : Book → By → ℕ → Event → Reply → Book → Type 0
Steps old by turn event reply new =
    ((reply ≡ Refused Memory) × (new ≡ old))
    ⊎ ((reply ≡ verdict old.places old.history by turn event) × (new ≡ book_after old by turn event reply))

-- The open segment was closed: it has changes, and the book goes on with the next one.
pub record ClosesSegment (old : Book) (segment : History) (new : Book) : Type 0 where
  pub segment_is : segment ≡ old.history
  pub some : old.history.entries ≢ []
  pub opens : new ≡ sealed_book old

-- The segment wasn't closed, and nothing changed: an allocation failed, or it has no changes.
abbrev pub StaysOpen : Book → Refusal → Book → Type 0
StaysOpen old refusal new = (new ≡ old) × ((refusal ≡ Memory) ⊎ ((refusal ≡ Empty) × (old.history.entries ≡ [])))

-- A seal is answered by the number of the closed segment and the length of the whole history at its end, or by why no
-- segment was closed.
abbrev pub AnswersSeal : Book → Reply → Book → Type 0
AnswersSeal old reply new =
    ((reply ≡ Sealed old.history.number (length_of old.history)) × (old.history.entries ≢ [])
    × (new ≡ sealed_book old))
    ⊎ ((refusal : Refusal) × (reply ≡ Refused refusal) × StaysOpen old refusal new)
