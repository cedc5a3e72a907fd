-- What happens if a change of a history is asked for again.
use Rattle.std.specs.Prelude.{ℕ, ◌≡◌, ◌≤◌, ◌⊎◌}
use Rattle.sm_history.specs.declared.entry.Entry.{Entry}
use Rattle.sm_history.specs.declared.refusal.Refusal.TheVariants.{Memory}
use Rattle.sm_history.specs.declared.reply.Reply.{Reply}
use Rattle.sm_history.specs.declared.reply.Reply.TheVariants.{Done, Refused}
use Rattle.sm_history.specs.Books.{Book}
use Rattle.sm_history.specs.Histories.{History, turn_of}
use Rattle.sm_history.specs.Steps.{Steps}
use Rattle.sm_history.specs.BookOrder.{extended}
use Rattle.sm_history.specs.Lawful.{IsJudged}

-- This is the book of a history, with this number of slots.
abbrev pub book_of : ℕ → History → Book
book_of places h = record { places = places; history = h }

-- The change was made again: the answer is its outcome, and the book goes on by it. Or an allocation failed, and nothing
-- changed.
abbrev pub Repeats : Book → Entry → Reply → Book → Type 0
Repeats old e reply new =
    ((reply ≡ Refused Memory) × (new ≡ old)) ⊎ ((reply ≡ Done e.outcome) × (new ≡ extended old e))

-- A change that a history judged is judged alike with more slots.
abbrev pub MoreSlotsJudgeAlike : Type 0
MoreSlotsJudgeAlike = (places more : ℕ) (e : Entry) (h : History) → places ≤ more → IsJudged places e h
    → IsJudged more e h

-- If the event of such a change is asked for again, of the same history and by the same actor, the change is made again.
abbrev pub ChangesRepeat : Type 0
ChangesRepeat = (places more : ℕ) (e : Entry) (h : History) (reply : Reply) (new : Book) → places ≤ more
    → IsJudged places e h → Steps (book_of more h) e.by (turn_of h e.by) e.event reply new
    → Repeats (book_of more h) e reply new
