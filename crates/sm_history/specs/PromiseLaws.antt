-- Laws of books, of verdicts and of tokens. Each is the contract of a function of `promises.rt`.
use Rattle.std.specs.Prelude.{true, false, ◌≡◌, ◌≢◌, ◌≤◌, ◌<◌, ℕ, ◌+◌}
use Rattle.sm_values.specs.declared.identity.Identity.{Identity}
use Rattle.sm_values.specs.declared.number.AdminId.{AdminId}
use Rattle.sm_values.specs.declared.number.ClientId.{ClientId}
use Rattle.sm_policy.specs.Policy.{Policy}
use Rattle.sm_history.specs.declared.by.By.{By, TheVariants.Manager, TheVariants.Client, TheVariants.Admin}
use Rattle.sm_history.specs.declared.event.Event.{Event, TheVariants.Connect, TheVariants.Die, TheVariants.Reload}
use Rattle.sm_history.specs.declared.entry.Entry.{Entry}
use Rattle.sm_history.specs.declared.outcome.Outcome.{Outcome, TheVariants.Connected}
use Rattle.sm_history.specs.declared.refusal.Refusal.{Refusal, TheVariants.Failed}
use Rattle.sm_history.specs.declared.refusal.Failure.TheVariants.{NotYours, NotConnected, OutOfTurn}
use Rattle.sm_history.specs.declared.reply.Reply.{Reply, TheVariants.Done, TheVariants.Refused}
use Rattle.sm_history.specs.Beginning.{IsLonger, IsLater}
use Rattle.sm_history.specs.Books.{Book}
use Rattle.sm_history.specs.Clients.{version_at, identity_at, is_live, next_client}
use Rattle.sm_history.specs.Histories.{History, effects_of, length_of, turn_of}
use Rattle.sm_history.specs.Lawful.{IsJudged}
use Rattle.sm_history.specs.Segments.{sealed}
use Rattle.sm_history.specs.Verdict.{verdict, is_there}
use Rattle.sm_history.specs.BookOrder.{Begins, IsLawfulBook, extended, sealed_book}
use Rattle.sm_history.specs.Promises.{Submitted, Joined, Turned, Closed, NotClosed}
use Rattle.sm_history.specs.PossibleReplies.{moves, ConnectReply, DeathReply, InstallReply}
use Rattle.sm_history.specs.Steps.{Steps, ClosesSegment, StaysOpen}
use Rattle.sm_history.specs.Tokens.{Knows, Grows, Sees, token, turn}

-- ---- books

-- A book begins with itself.
abbrev pub BookBeginsWithItself : Type 0
BookBeginsWithItself = (b : Book) → Begins b b

-- A book begins with the one before its last change, which was judged by it.
abbrev pub BookBeginsWithTheOneBefore : Type 0
BookBeginsWithTheOneBefore = (b : Book) (e : Entry) → IsJudged b.places e b.history → Begins (extended b e) b

-- A book begins with the one that was sealed.
abbrev pub BookBeginsWithTheOneSealed : Type 0
BookBeginsWithTheOneSealed = (b : Book) → Begins (sealed_book b) b

-- A book begins with each book that a beginning of it begins with.
abbrev pub BookBeginsWithItsBeginnings : Type 0
BookBeginsWithItsBeginnings = (x y z : Book) → Begins x y → Begins y z → Begins x z

-- A change adds one to the turn of its actor.
abbrev pub ChangeCounts : Type 0
ChangeCounts = (b : Book) (e : Entry) → turn_of (extended b e).history e.by ≡ turn_of b.history e.by + 1

-- A beginning of the book after a change, with as many changes of the actor as before the change, is a beginning of the
-- book before it.
abbrev pub BeginningIsBefore : Type 0
BeginningIsBefore = (b o : Book) (e : Entry) → Begins (extended b e) o
    → turn_of o.history e.by ≡ turn_of b.history e.by → Begins b o

-- What a token sees never goes back: neither the segment's number, the length nor the version of the policy in force,
-- nor the number of changes of an actor that is there.
abbrev pub NothingGoesBack : Type 0
NothingGoesBack = (new old : Book) → IsLawfulBook old → Begins new old → IsLater new.history old.history

-- A book that begins with a lawful one is lawful.
abbrev pub LaterBookIsLawful : Type 0
LaterBookIsLawful = (new old : Book) → IsLawfulBook old → Begins new old → IsLawfulBook new

-- If both books have the same segment, it has the same opening, and its newer changes come after the older ones.
abbrev pub SegmentGoesOn : Type 0
SegmentGoesOn = (new old : Book) → Begins new old → new.history.number ≡ old.history.number
    → IsLonger new.history old.history

-- A client that lives in a book, and had connected in a beginning of it, lived there, as the same process.
abbrev pub ClientStays : Type 0
ClientStays = (new old : Book) (c : ℕ) → Begins new old → c < next_client (effects_of old.history)
    → is_live (effects_of new.history) c ≡ true
    → (is_live (effects_of old.history) c ≡ true)
    × (identity_at (effects_of new.history) c ≡ identity_at (effects_of old.history) c)

-- A seal is no change: it keeps the length, the version, and the number of changes of each actor that is there.
pub record IsNoChange (h : History) : Type 0 where
  pub length : length_of (sealed h) ≡ length_of h
  pub version : version_at (effects_of (sealed h)) ≡ version_at (effects_of h)
  pub turns : (by : By) → is_there (effects_of h) by ≡ true → turn_of (sealed h) by ≡ turn_of h by

-- Sealing a book is no change.
abbrev pub SealIsNoChange : Type 0
SealIsNoChange = (b : Book) → IsNoChange b.history

-- ---- verdicts

-- A change that is done has the turn of its actor.
abbrev pub DoneIsInTurn : Type 0
DoneIsInTurn = (places : ℕ) (h : History) (by : By) (turn : ℕ) (event : Event) (outcome : Outcome)
    → verdict places h by turn event ≡ Done outcome → turn ≡ turn_of h by

-- An event is out of turn if its actor made another number of changes; the answer has that number.
abbrev pub OutOfTurnTellsTurn : Type 0
OutOfTurnTellsTurn = (places : ℕ) (h : History) (by : By) (turn : ℕ) (event : Event) (n : ℕ)
    → verdict places h by turn event ≡ Refused (Failed (OutOfTurn n)) → (n ≡ turn_of h by) × (turn ≢ turn_of h by)

-- Any answer after that check means that the event had its turn.
abbrev pub OthersAreInTurn : Type 0
OthersAreInTurn = (places : ℕ) (h : History) (by : By) (turn : ℕ) (event : Event)
    → verdict places h by turn event ≢ Refused (Failed NotYours)
    → verdict places h by turn event ≢ Refused (Failed NotConnected)
    → ((n : ℕ) → verdict places h by turn event ≢ Refused (Failed (OutOfTurn n)))
    → turn ≡ turn_of h by

-- An event that isn't its actor's is refused in the same way on each history.
abbrev pub NotYoursIsAlike : Type 0
NotYoursIsAlike = (a b : Book) (by : By) (turn other : ℕ) (event : Event)
    → verdict a.places a.history by turn event ≡ Refused (Failed NotYours)
    → verdict b.places b.history by other event ≡ Refused (Failed NotYours)

-- ---- tokens

-- What a token knows never goes back, nor does its own turn while its actor is there.
abbrev pub TokenGoesOn : Type 0
TokenGoesOn = (old new : Knows) → IsLawfulBook old.seen → Grows old new
    → IsLater new.seen.history old.seen.history
    × (is_there (effects_of new.seen.history) old.by ≡ true → turn old ≤ turn new)

-- If a token's actor makes a step at the token's turn, and the token then sees the book after the step, the call's
-- promise holds.
abbrev pub StepIsSubmitted : Type 0
StepIsSubmitted = (b after : Book) (old new : Knows) (event : Event) (reply : Reply) → Sees old after new
    → moves reply ≡ true → Steps b old.by (turn old) event reply after → Submitted old new event reply

-- If the answer moves no token, the promise holds for the token as it is.
abbrev pub UnseenIsSubmitted : Type 0
UnseenIsSubmitted = (b after : Book) (old : Knows) (event : Event) (reply : Reply) → moves reply ≡ false
    → Steps b old.by (turn old) event reply after → Submitted old old event reply

-- A client's Die has one of its possible answers.
abbrev pub DeathIsAnswered : Type 0
DeathIsAnswered = (old new : Knows) (c : ClientId) (reply : Reply) → old.by ≡ Client c
    → Submitted old new Die reply → DeathReply reply

-- An administrator's Reload has one of its possible answers.
abbrev pub InstallIsAnswered : Type 0
InstallIsAnswered = (old new : Knows) (a : AdminId) (expected : ℕ) (policy : Policy) (reply : Reply) → old.by ≡ Admin a
    → Submitted old new (Reload expected policy) reply → InstallReply reply

-- The manager's step at its own turn that connects a process has one of its possible answers.
abbrev pub ConnectIsAnswered : Type 0
ConnectIsAnswered = (b after : Book) (who : Identity) (due : ℕ) (reply : Reply) → due ≡ turn_of b.history Manager
    → Steps b Manager due (Connect who) reply after → ConnectReply reply

-- A slot sees the same, whoever owns it.
abbrev pub PlaceSeesAlike : Type 0
PlaceSeesAlike = (old new : Knows) (b : Book) (by : By) → Sees old b new
    → Sees (token by old.seen old.reads) b (token by new.seen new.reads)

-- A seat that sees the book before the step and the one after it, and then is the new client's, is a session that has
-- joined.
abbrev pub ConnectJoins : Type 0
ConnectJoins = (b after : Book) (old between seat : Knows) (who : Identity) (due : ℕ) (c : ClientId)
    → due ≡ turn_of b.history Manager → Steps b Manager due (Connect who) (Done (Connected c)) after
    → Sees old b between → Sees between after seat → Joined old (token (Client c) seat.seen seat.reads) who

-- A seat that sees the book before a step that was refused is turned away.
abbrev pub ConnectTurns : Type 0
ConnectTurns = (b after : Book) (old new : Knows) (who : Identity) (due : ℕ) (refusal : Refusal)
    → due ≡ turn_of b.history Manager → Steps b Manager due (Connect who) (Refused refusal) after
    → Sees old b new → Turned old new who refusal

-- ---- seals

-- If a token sees a book that is sealed, and then the book after the seal, the call's promise holds.
abbrev pub SealCloses : Type 0
SealCloses = (b after : Book) (old between new : Knows) (segment : History) → Sees old b between
    → ClosesSegment b segment after → Sees between after new → Closed old new segment

-- If no segment was closed, it is enough that the token sees the book.
abbrev pub OpenIsNotClosed : Type 0
OpenIsNotClosed = (b after : Book) (old new : Knows) (refusal : Refusal) → Sees old b new → StaysOpen b refusal after
    → NotClosed old new refusal
