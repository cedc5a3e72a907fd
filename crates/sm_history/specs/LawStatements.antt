-- Laws of every lawful history, and of histories that begin with others. Each is the contract of a function of
-- `laws.rt`.
use Rattle.std.specs.Prelude.{ℕ, ◌≡◌, ◌≤◌, true, is_none}
use Rattle.sm_history.specs.declared.by.By.{By}
use Rattle.sm_history.specs.declared.entry.Entry.{Entry}
use Rattle.sm_history.specs.declared.reply.Reply.TheVariants.{Done}
use Rattle.sm_history.specs.Effects.{Effects}
use Rattle.sm_history.specs.Clients.{next_client, version_at}
use Rattle.sm_history.specs.Holdings.{node_at, free_number}
use Rattle.sm_history.specs.Histories.{History, entered, effects_of, length_of, turn_of}
use Rattle.sm_history.specs.Verdict.{verdict}
use Rattle.sm_history.specs.Segments.{client, sealed}
use Rattle.sm_history.specs.Lawful.{IsLawful, IsJudged, FitsPlaces, FitsNumbers}
use Rattle.sm_history.specs.Sound.{Sound}
use Rattle.sm_history.specs.Beginning.{BeginsWith, IsLonger, IsLater}
use Rattle.std.specs.List.{All}
use Rattle.sm_history.specs.declared.event.Event.{Event}
use Rattle.sm_history.specs.declared.query.Query.{Query}
use Rattle.sm_history.specs.declared.records.Record.{Record}
use Rattle.sm_history.specs.Records.{records, query_records, IsTrueOf, IsTrueOnce}

-- The effects of a lawful history are sound.
abbrev pub LawfulAreSound : Type 0
LawfulAreSound = (places : ℕ) (h : History) → IsLawful places h → Sound (effects_of h)

-- The numbers of clients, versions and turns are at most the length.
abbrev pub NumbersAreSmall : Type 0
NumbersAreSmall = (places : ℕ) (h : History) → IsLawful places h →
    (next_client (effects_of h) ≤ length_of h) × (version_at (effects_of h) ≤ length_of h)
    × ((by : By) → turn_of h by ≤ length_of h)

-- A client that hasn't connected has made no change.
abbrev pub UnconnectedHaveNoTurns : Type 0
UnconnectedHaveNoTurns =
    (places : ℕ) (h : History) → IsLawful places h → (c : ℕ) → next_client (effects_of h) ≤ c → turn_of h (client c) ≡ 0

-- A client holds nothing under the number of a new handle.
abbrev pub FreeNumbersAreFree : Type 0
FreeNumbersAreFree = (d : Effects) (c : ℕ) → is_none (node_at d c (free_number d c)) ≡ true

-- A lawful history stays lawful by a change that is done.
abbrev pub DoneIsLawful : Type 0
DoneIsLawful = (places : ℕ) (h : History) (e : Entry) → IsLawful places h → IsJudged places e h
    → IsLawful places (entered e h)

-- Such a change keeps the slots for the deaths to come.
abbrev pub DoneFits : Type 0
DoneFits = (places : ℕ) (h : History) (e : Entry) → IsLawful places h → FitsPlaces places h
    → verdict places h e.by e.turn e.event ≡ Done e.outcome → FitsPlaces places (entered e h)

-- Lengths with the deaths to come, and counts of grants, are below the greatest number; so then are turns, versions and
-- the numbers of clients.
abbrev pub NumbersFit : Type 0
NumbersFit = (places : ℕ) (h : History) → IsLawful places h → FitsNumbers h

-- A lawful history stays lawful by a seal.
abbrev pub SealedIsLawful : Type 0
SealedIsLawful = (places : ℕ) (h : History) → IsLawful places h → IsLawful places (sealed h)

-- A seal keeps the slots for the deaths to come.
abbrev pub SealedFits : Type 0
SealedFits = (places : ℕ) (h : History) → IsLawful places h → FitsPlaces places h → FitsPlaces places (sealed h)

-- A history begins with itself.
abbrev pub BeginsWithItself : Type 0
BeginsWithItself = (places : ℕ) (h : History) → BeginsWith places h h

-- A history begins with the one before its last change, which was judged by it.
abbrev pub BeginsWithTheOneBefore : Type 0
BeginsWithTheOneBefore = (places : ℕ) (e : Entry) (h : History) → IsJudged places e h
    → BeginsWith places (entered e h) h

-- A segment begins with the history that was sealed.
abbrev pub BeginsWithTheOneSealed : Type 0
BeginsWithTheOneSealed = (places : ℕ) (h : History) → BeginsWith places (sealed h) h

-- A history begins with each history that a beginning of it begins with.
abbrev pub BeginsWithItsBeginnings : Type 0
BeginsWithItsBeginnings = (places : ℕ) (g h k : History) → BeginsWith places g h → BeginsWith places h k
    → BeginsWith places g k

-- If both are one segment, only changes came between them.
abbrev pub SegmentsGrow : Type 0
SegmentsGrow = (places : ℕ) (new old : History) → BeginsWith places new old → new.number ≡ old.number
    → IsLonger new old

-- A history that begins with a lawful one is lawful.
abbrev pub LaterIsLawful : Type 0
LaterIsLawful = (places : ℕ) (new old : History) → IsLawful places old → BeginsWith places new old → IsLawful places new

-- Numbers, lengths, versions, and the turns of actors that are there, don't get less in a later history.
abbrev pub LaterIsMore : Type 0
LaterIsMore = (places : ℕ) (new old : History) → IsLawful places old → BeginsWith places new old → IsLater new old

-- The records of an event are true of the history in which it is judged.
abbrev pub RecordsAreTrue : Type 0
RecordsAreTrue = (places : ℕ) (h : History) (by : By) (turn : ℕ) (event : Event) → IsLawful places h
    → All (IsTrueOf h) (records places h by turn event)

-- So are the records of a query.
abbrev pub QueryRecordsAreTrue : Type 0
QueryRecordsAreTrue = (h : History) (by : By) (q : Query) → All (IsTrueOf h) (query_records h by q)

-- A record that was true once of a history was true once of every history that begins with it.
abbrev pub RecordsStayTrue : Type 0
RecordsStayTrue = (places : ℕ) (new old : History) (r : Record) → BeginsWith places new old → IsTrueOnce places old r
    → IsTrueOnce places new r
