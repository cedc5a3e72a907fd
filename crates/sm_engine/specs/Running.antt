-- What an engine writes for the bytes that it has read.
use Rattle.std.specs.Prelude.{◌≡◌, ◌⊎◌, ℕ, ◌+◌, ◌-◌, ◌≤◌, length, take, List, [], ◌∷◌, ◌++◌, Option, Result, Ok, Err}
use Rattle.std.specs.Prelude.{codes, if◌then◌else◌, Bool, MatchBool, false}
use Rattle.std.specs.Io.KnownBytes.{Appends, Consumes}
use Rattle.sm_wire.specs.declared.item.Item.{Item}
use Rattle.sm_wire.specs.declared.kind.Kind.{Kind}
use Rattle.sm_wire.specs.Items.{Scan, IsAlive, IsDead, has_rest, items_after, items_of, rest_of}
use Rattle.sm_engine.specs.declared.fault.Fault.{Fault}
use Rattle.sm_engine.specs.declared.fault.Fault.TheVariants.{ReadFault, WriteFault, TooManyReads, LineTooLong, Memory}

-- In a state of a machine an item may have this reply text and these audit lines, and lead to a state.
abbrev pub Answers : Type 0 → Type 1
Answers S = S → Item → List ℕ → List ℕ → S → Type 0

-- These items, in order, have this reply text and these audit lines, and the machine goes from the first state to the
-- last.
abbrev pub Runs : {S : Type 0} → Answers S → S → List Item → List ℕ → List ℕ → S → Type 0
Runs answers s [] replies audit t = (s ≡ t) × (replies ≡ []) × (audit ≡ [])
Runs {S} answers s (item ∷ items) replies audit t = (m : S) × (r : List ℕ) × (a : List ℕ) × (rs : List ℕ)
    × (more : List ℕ) × answers s item r a m × Runs answers m items rs more t × (replies ≡ r ++ rs)
    × (audit ≡ a ++ more)

-- The texts of one item's answer were appended to the two texts.
pub record Answered {S : Type 0} (answers : Answers S) (old : S) (item : Item)
    (replies replies_new audit audit_new : List ℕ) (new : S) : Type 0 where
  pub reply : List ℕ
  pub lines : List ℕ
  pub step : answers old item reply lines new
  pub replied : replies_new ≡ replies ++ reply
  pub audited : audit_new ≡ audit ++ lines

-- No answer has audit lines.
abbrev pub IsSilent : {S : Type 0} → Answers S → Type 0
IsSilent {S} answers = (old : S) → (item : Item) → (replies audit : List ℕ) → (new : S)
    → answers old item replies audit new → audit ≡ []

-- An item was answered and its texts were lost because an allocation failed, or it wasn't answered.
abbrev pub GaveUp : {S : Type 0} → Answers S → S → Item → S → Type 0
GaveUp answers old item new = (new ≡ old) ⊎ ((reply : List ℕ) × (lines : List ℕ) × answers old item reply lines new)

-- The engine writes this at the end of the input.
abbrev pub ending_of : Scan → List ℕ
ending_of s = if has_rest s then codes "fault cut\n" else []

-- A prefix of the whole text was written, and the rest of it is held back.
pub record Pending (old new : Option (List ℕ)) (held whole : List ℕ) : Type 0 where
  pub written : List ℕ
  pub appended : Appends old new written
  pub joined : whole ≡ written ++ held

-- A prefix of what was held back was written, and the rest is held back.
pub record Spilled (old new : Option (List ℕ)) (held rest : List ℕ) : Type 0 where
  pub written : List ℕ
  pub appended : Appends old new written
  pub joined : held ≡ written ++ rest

-- The items so far were answered, and the ends of their texts are held back.
pub record Going {S : Type 0} (answers : Answers S) (old : S) (items : List Item)
    (w w_new a a_new : Option (List ℕ)) (held held_lines : List ℕ) (new : S) : Type 0 where
  pub replies : List ℕ
  pub lines : List ℕ
  pub runs : Runs answers old items replies lines new
  pub wrote : Pending w w_new held replies
  pub audited : Pending a a_new held_lines lines

-- A prefix of these two texts was written. Fewer than `limit` bytes of the first are missing; with 0 none are.
pub record Partly (limit : ℕ) (old new : Option (List ℕ)) (text last : List ℕ) : Type 0 where
  pub written : List ℕ
  pub missing : List ℕ
  pub appended : Appends old new written
  pub joined : text ++ last ≡ written ++ missing
  pub short : length text ≤ length written + (limit - 1)

-- All the items were answered and their texts written.
pub record Wrote {S : Type 0} (answers : Answers S) (old : S) (items : List Item)
    (w w_new a a_new : Option (List ℕ)) (new : S) : Type 0 where
  pub replies : List ℕ
  pub lines : List ℕ
  pub runs : Runs answers old items replies lines new
  pub wrote : Appends w w_new replies
  pub audited : Appends a a_new lines

-- Some items were answered, then at most one more, and then none. Of each of the two texts a prefix was written, and
-- fewer than `limit` bytes of the replies before the last one are missing.
pub record Stopped {S : Type 0} (limit : ℕ) (answers : Answers S) (old : S)
    (items : List Item) (w w_new a a_new : Option (List ℕ)) (new : S) : Type 0 where
  pub earlier : List Item
  pub last : List Item
  pub others : List Item
  pub all : items ≡ earlier ++ (last ++ others)
  pub one : length last ≤ 1
  pub middle : S
  pub replies : List ℕ
  pub lines : List ℕ
  pub runs : Runs answers old earlier replies lines middle
  pub last_replies : List ℕ
  pub last_lines : List ℕ
  pub ends : Runs answers middle last last_replies last_lines new
  pub wrote : Partly limit w w_new replies last_replies
  pub audited : Partly limit a a_new lines last_lines

-- All the items of these bytes were answered and their texts written. Each of the reads so far gave at least one of the
-- bytes. The machine isn't over, and no line was too long.
pub record CaughtUp {S : Type 0} (kind : Kind) (answers : Answers S) (over : S → Bool)
    (reads : ℕ) (old : S) (bytes : List ℕ) (w w_new a a_new : Option (List ℕ)) (new : S) : Type 0 where
  pub wrote : Wrote answers old (items_of kind bytes) w w_new a a_new new
  pub alive : IsAlive (rest_of kind bytes)
  pub going_on : over new ≡ false
  pub enough : reads ≤ length bytes

-- The engine had caught up with all the bytes before the last read, and for the items that ended in that read this
-- holds.
pub record LastRead {S : Type 0} (kind : Kind) (answers : Answers S) (over : S → Bool)
    (reads : ℕ) (old : S) (bytes : List ℕ) (w a : Option (List ℕ))
    (Takes : S → List Item → Option (List ℕ) → Option (List ℕ) → Type 0) : Type 0 where
  pub earlier : List ℕ
  pub piece : List ℕ
  pub joined : bytes ≡ earlier ++ piece
  pub middle : S
  pub w_middle : Option (List ℕ)
  pub a_middle : Option (List ℕ)
  pub before : CaughtUp kind answers over (reads - 1) old earlier w w_middle a a_middle middle
  pub takes : Takes middle (items_after (rest_of kind earlier) piece) w_middle a_middle

-- All the items of these bytes were answered and their texts written, and the engine didn't read too far: before the
-- last read the machine wasn't over, and no line was too long.
abbrev pub AnswersAll : {S : Type 0} → Kind → Answers S → (S → Bool) → ℕ → S → List ℕ
    → Option (List ℕ) → Option (List ℕ) → Option (List ℕ) → Option (List ℕ) → S → Type 0
AnswersAll kind answers over reads old bytes w w_new a a_new new =
    LastRead kind answers over reads old bytes w a (λ middle items w_middle a_middle.
    Wrote answers middle items w_middle w_new a_middle a_new new)

-- The engine stopped among the items of the last read.
abbrev pub StopsEarly : {S : Type 0} → Kind → Answers S → (S → Bool) → ℕ → ℕ → S → List ℕ → Option (List ℕ)
    → Option (List ℕ) → Option (List ℕ) → Option (List ℕ) → S → Type 0
StopsEarly kind answers over limit reads old bytes w w_new a a_new new =
    LastRead kind answers over reads old bytes w a (λ middle items w_middle a_middle.
    Stopped limit answers middle items w_middle w_new a_middle a_new new)

-- At the end of the input the engine had caught up, and then it wrote this.
pub record Ended {S : Type 0} (kind : Kind) (answers : Answers S) (over : S → Bool) (reads : ℕ) (old : S)
    (bytes : List ℕ) (w w_new a a_new : Option (List ℕ)) (ending : List ℕ) (new : S) : Type 0 where
  pub w_middle : Option (List ℕ)
  pub before : CaughtUp kind answers over (reads - 1) old bytes w w_middle a a_new new
  pub ended : Appends w_middle w_new ending

-- A machine is never over.
abbrev pub never : {S : Type 0} → S → Bool
never s = false

-- Prefixes of the two texts are written, or all of them and a prefix of the ending.
abbrev pub Fronts : {S : Type 0} → Kind → Answers S → (S → Bool) → ℕ → ℕ → S → List ℕ
    → Option (List ℕ) → Option (List ℕ) → Option (List ℕ) → Option (List ℕ) → S → Type 0
Fronts kind answers over limit reads old bytes w w_new a a_new new =
    StopsEarly kind answers over limit reads old bytes w w_new a a_new new
    ⊎ ((n : ℕ) × Ended kind answers over reads old bytes w w_new a a_new (take n (ending_of (rest_of kind bytes))) new)

-- An engine that read these bytes in this number of reads has written this, by its result. It reads until the machine
-- is over.
abbrev pub ByResult : {S : Type 0} → Kind → Result (Unit {0}) Fault → Answers S → (S → Bool) → ℕ → ℕ → ℕ → S → List ℕ
    → Option (List ℕ) → Option (List ℕ) → Option (List ℕ) → Option (List ℕ) → S → Type 0
ByResult kind (Ok x) answers over limit bound reads old bytes w w_new a a_new new = MatchBool (over new)
    (AnswersAll kind answers over reads old bytes w w_new a a_new new)
    (Ended kind answers over reads old bytes w w_new a a_new (ending_of (rest_of kind bytes)) new)
ByResult kind (Err ReadFault) answers over limit bound reads old bytes w w_new a a_new new =
    CaughtUp kind answers over (reads - 1) old bytes w w_new a a_new new
ByResult kind (Err TooManyReads) answers over limit bound reads old bytes w w_new a a_new new =
    CaughtUp kind answers over reads old bytes w w_new a a_new new × (bound ≤ length bytes)
ByResult kind (Err LineTooLong) answers over limit bound reads old bytes w w_new a a_new new =
    AnswersAll kind answers over reads old bytes w w_new a a_new new × IsDead (rest_of kind bytes)
ByResult kind (Err WriteFault) answers over limit bound reads old bytes w w_new a a_new new =
    Fronts kind answers over limit reads old bytes w w_new a a_new new
ByResult kind (Err Memory) answers over limit bound reads old bytes w w_new a a_new new =
    Fronts kind answers over limit reads old bytes w w_new a a_new new

-- An engine for lines of this kind, which holds back fewer than `limit` bytes and may make `bound` reads, made some
-- reads, read these bytes, and wrote this for them.
pub record Served {S : Type 0} (kind : Kind) (answers : Answers S) (over : S → Bool)
    (limit : ℕ) (result : Result (Unit {0}) Fault) (bound reads : ℕ) (old : S)
    (r r_new w w_new a a_new : Option (List ℕ)) (new : S) : Type 0 where
  pub bytes : List ℕ
  pub consumed : Consumes r r_new bytes
  pub written : ByResult kind result answers over limit bound reads old bytes w w_new a a_new new

-- This holds after some reads.
pub record Sofar {S : Type 0} (kind : Kind) (answers : Answers S) (over : S → Bool)
    (reads : ℕ) (old : S) (scan : Scan) (r r_new w w_new a a_new : Option (List ℕ)) (new : S) : Type 0 where
  pub bytes : List ℕ
  pub consumed : Consumes r r_new bytes
  pub scanned : scan ≡ rest_of kind bytes
  pub caught_up : CaughtUp kind answers over reads old bytes w w_new a a_new new
