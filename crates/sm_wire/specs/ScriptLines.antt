-- The lines of a script that make changes, as they are written.
use Rattle.std.specs.Prelude.{ℕ, ◌≤◌, Bool, true, false, List, [], ◌∷◌, ◌++◌, codes, length, map}
use Rattle.std.specs.Fmt.{decimal}
use Rattle.std.specs.List.{AllByRecursion, flat_map}
use Rattle.hex.specs.Hex.{IsBytes}
use Rattle.sm_values.specs.declared.identity.Identity.{Identity}
use Rattle.sm_values.specs.declared.limits.TheConstants.{MOST_PAYLOAD_BYTES, MOST_REFS}
use Rattle.sm_values.specs.declared.number.ClientId.{ClientId}
use Rattle.sm_values.specs.declared.number.ObjRef.{ObjRef, TheVariants.Own, TheVariants.Handle, TheVariants.Null}
use Rattle.sm_values.specs.Messages.{name_text, numbered}
use Rattle.sm_history.specs.declared.event.Event.{Event}
use Rattle.sm_history.specs.declared.event.Event.TheVariants.{Open, Connect, Add, Get, Watch, Unwatch, Unregister}
use Rattle.sm_history.specs.declared.event.Event.TheVariants.{Call, Release, Take, Die, Reload}
use Rattle.sm_wire.specs.FieldSpelling.{IsContext}
use Rattle.sm_wire.specs.Number.{u32_max, u64_max}
use Rattle.sm_wire.specs.Replies.{payload_text}

-- This is REF.
unfoldable pub reference_text : ObjRef → List ℕ
reference_text (Own n) = numbered (codes "o") n
reference_text (Handle n) = numbered (codes "h") n
reference_text Null = codes "null"

-- This is ALLOW.
unfoldable pub flag_text : Bool → List ℕ
flag_text true = codes "1"
flag_text false = codes "0"

-- A field is written after a space.
abbrev pub spaced : List ℕ → List ℕ
spaced field = codes " " ++ field

-- These are the word and the fields of the line by which a client makes an event. No client makes an opening, a connect
-- or a reload.
abbrev pub change_fields : Event → List (List ℕ)
change_fields (Open who policy) = []
change_fields (Connect who) = []
change_fields (Add name obj allow dump) =
    codes "add" ∷ name_text name ∷ reference_text obj ∷ flag_text allow ∷ decimal dump ∷ []
change_fields (Get name) = codes "get" ∷ name_text name ∷ []
change_fields (Watch name object) = codes "watch" ∷ name_text name ∷ numbered (codes "o") object ∷ []
change_fields (Unwatch name object) = codes "unwatch" ∷ name_text name ∷ numbered (codes "o") object ∷ []
change_fields (Unregister name obj) = codes "unregister" ∷ name_text name ∷ reference_text obj ∷ []
change_fields (Call handle payload refs) =
    codes "call" ∷ decimal handle ∷ payload_text payload ∷ map reference_text refs
change_fields (Release handle) = codes "release" ∷ decimal handle ∷ []
change_fields Take = codes "take" ∷ []
change_fields Die = codes "bye" ∷ []
change_fields (Reload expected policy) = []

-- This is what follows the client's number.
unfoldable pub event_text : Event → List ℕ
event_text event = flat_map spaced (change_fields event)

-- This is the line of a script by which a client makes an event.
unfoldable pub change_text : ClientId → Event → List ℕ
change_text client event = decimal client.0 ++ event_text event

-- This is `hello PID UID CONTEXT`.
unfoldable pub hello_text : Identity → List ℕ
hello_text who = numbered (codes "hello ") who.pid ++ numbered (codes " ") who.uid ++ spaced who.context

-- This is `reload EXPECTED R C`, with the lengths of two files.
unfoldable pub reload_text : ℕ → List ℕ → List ℕ → List ℕ
reload_text expected rules contexts =
    numbered (codes "reload ") expected ++ numbered (codes " ") (length rules) ++ numbered (codes " ") (length contexts)

-- ---- what fits into a line, as all values of the code do

-- The number of a reference has 32 bits.
abbrev pub FitsReference : ObjRef → Type 0
FitsReference (Own n) = n ≤ u32_max
FitsReference (Handle n) = n ≤ u32_max
FitsReference Null = Unit {0}

-- A client makes such an event, and its numbers and bytes are in their ranges.
abbrev pub FitsLine : Event → Type 0
FitsLine (Open who policy) = ⊥
FitsLine (Connect who) = ⊥
FitsLine (Add name obj allow dump) = IsBytes name × FitsReference obj × (dump ≤ u32_max)
FitsLine (Get name) = IsBytes name
FitsLine (Watch name object) = IsBytes name × (object ≤ u32_max)
FitsLine (Unwatch name object) = IsBytes name × (object ≤ u32_max)
FitsLine (Unregister name obj) = IsBytes name × FitsReference obj
FitsLine (Call handle payload refs) = (handle ≤ u32_max) × IsBytes payload × (length payload ≤ MOST_PAYLOAD_BYTES)
    × AllByRecursion FitsReference refs × (length refs ≤ MOST_REFS)
FitsLine (Release handle) = handle ≤ u32_max
FitsLine Take = Unit {0}
FitsLine Die = Unit {0}
FitsLine (Reload expected policy) = ⊥

-- The numbers of a process have 32 bits, and its context is one.
pub record FitsHello (who : Identity) : Type 0 where
  pub pid : who.pid ≤ u32_max
  pub uid : who.uid ≤ u32_max
  pub context : IsContext who.context

-- The numbers of a reload fit.
pub record FitsReload (expected : ℕ) (rules contexts : List ℕ) : Type 0 where
  pub version : expected ≤ u64_max
  pub first : length rules ≤ u32_max
  pub second : length contexts ≤ u32_max
