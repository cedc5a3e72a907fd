-- The items of a stream of bytes.
use Rattle.std.specs.Prelude.{◌≡◌, ◌≢◌, ◌<◌, ◌≤◌, ℕ, ◌+◌, List, [], ◌∷◌, ◌++◌, length, take, drop, Option, Some, None, Bool, true}
use Rattle.std.specs.Prelude.{false, ◌||◌, ◌&&◌, nat_le, ◌==◌, if◌then◌else◌}
use Rattle.sm_wire.specs.declared.request.Request.{Request}
use Rattle.sm_wire.specs.declared.item.Item.{Item}
use Rattle.sm_wire.specs.declared.item.Item.TheVariants.{Asked, Policy, Malformed, LineTooLong}
use Rattle.sm_wire.specs.declared.kind.Kind.{Kind}
use Rattle.sm_wire.specs.declared.frame_state.FrameState.{FrameState}
use Rattle.sm_wire.specs.declared.frame_state.FrameState.TheVariants.{Line, Texts as TextsMode, Dead}
use Rattle.sm_wire.specs.declared.reload_header.ReloadHeader.{ReloadHeader}
use Rattle.sm_wire.specs.Grammar.{request_of, header_of}

-- A scan has the kind of its stream, what comes next, and the bytes of that so far.
pub record Scan : Type 0 where
  pub kind : Kind
  pub mode : FrameState
  pub held : List ℕ

-- This is the most bytes of a line, without its newline.
abbrev pub line_limit : ℕ
line_limit = 4096

-- This is the most bytes of a file.
abbrev pub text_limit : ℕ
text_limit = 4194304

-- This is the scan before the first byte, and after an item.
abbrev pub scan_start : Kind → Scan
scan_start kind = record { kind = kind; mode = Line; held = [] }

-- This is the scan after a line or a header file that was too long.
abbrev pub scan_dead : Kind → Scan
scan_dead kind = record { kind = kind; mode = Dead; held = [] }

-- No line and no header file was too long yet.
abbrev pub IsAlive : Scan → Type 0
IsAlive s = s.mode ≢ Dead

-- A line or a header file was too long.
abbrev pub IsDead : Scan → Type 0
IsDead s = s.mode ≡ Dead

-- A step has the scan after one byte, and the item that this byte completes.
abbrev pub FrameStep : Type 0
FrameStep = Scan × List Item

-- This is the item of a line.
unfoldable pub item_of : Kind → List ℕ → Item
item_of kind line = asked (request_of kind line)
  where
    asked : Option Request → Item
    asked (Some request) = Asked request
    asked None = Malformed

-- This is the item of a `reload` line and the bytes of its files.
abbrev pub policy_item : ReloadHeader → List ℕ → Item
policy_item a bytes = Policy (record {
  expected = a.expected;
  rules = take a.rules bytes;
  contexts = drop a.rules bytes;
})

-- At the end of a `reload` line its files follow, if it announces any bytes.
unfoldable pub text_start : Kind → ReloadHeader → FrameStep
text_start kind a =
    if nat_le a.rules text_limit && nat_le a.contexts text_limit
    then (if a.rules + a.contexts == 0 then (scan_start kind, policy_item a [] ∷ [])
    else (record { kind = kind; mode = TextsMode a; held = [] }, []))
    else (scan_dead kind, LineTooLong ∷ [])

-- This is the step at the end of a line.
unfoldable pub line_end : Kind → List ℕ → FrameStep
line_end kind line = ended (header_of kind line)
  where
    ended : Option ReloadHeader → FrameStep
    ended (Some a) = text_start kind a
    ended None = (scan_start kind, item_of kind line ∷ [])

-- This is the step of one more byte of a line.
unfoldable pub line_step : Kind → List ℕ → ℕ → FrameStep
line_step kind held b = if b == 10 then line_end kind held
    else (if nat_le line_limit (length held) then (scan_dead kind, LineTooLong ∷ [])
    else (record { kind = kind; mode = Line; held = held ++ b ∷ [] }, []))

-- This is the step of one more byte of the files.
unfoldable pub text_step : Kind → ReloadHeader → List ℕ → FrameStep
text_step kind a bytes = if length bytes == a.rules + a.contexts then (scan_start kind, policy_item a bytes ∷ [])
    else (record { kind = kind; mode = TextsMode a; held = bytes }, [])

-- This is the step of one more byte.
unfoldable pub mode_step : Kind → FrameState → List ℕ → ℕ → FrameStep
mode_step kind Line held b = line_step kind held b
mode_step kind (TextsMode a) held b = text_step kind a (held ++ b ∷ [])
mode_step kind Dead held b = (scan_dead kind, [])

-- This is the step of one more byte in a scan.
abbrev pub byte_step : Scan → ℕ → FrameStep
byte_step s b = mode_step s.kind s.mode s.held b

-- This is the scan after the bytes.
abbrev pub scan_after : Scan → List ℕ → Scan
scan_after s [] = s
scan_after s (b ∷ bs) = scan_after (byte_step s b).0 bs

-- These are the items that the bytes end.
abbrev pub items_after : Scan → List ℕ → List Item
items_after s [] = []
items_after s (b ∷ bs) = (byte_step s b).1 ++ items_after (byte_step s b).0 bs

-- These are the items of a stream.
abbrev pub items_of : Kind → List ℕ → List Item
items_of kind bytes = items_after (scan_start kind) bytes

-- This is the scan after a whole stream.
abbrev pub rest_of : Kind → List ℕ → Scan
rest_of kind bytes = scan_after (scan_start kind) bytes

-- The code represents a step so: what is read next, the bytes of it so far, and one more item, if any.
pub record Makes (s : FrameStep) (kind : Kind) (mode : FrameState) (held : List ℕ) (old new : List Item) : Type 0 where
  pub scan : s.0 ≡ record { kind = kind; mode = mode; held = held }
  pub items : new ≡ old ++ s.1

-- A call of a reader takes the first n bytes of a piece, and at least one if there is any. One item at most ends among
-- them, and is appended.
pub record Takes (old new : Scan) (piece : List ℕ) (n : ℕ) (before after : List Item) : Type 0 where
  pub some : 0 < length piece → 0 < n
  pub within : n ≤ length piece
  pub scan : new ≡ scan_after old (take n piece)
  pub items : after ≡ before ++ items_after old (take n piece)
  pub one : length (items_after old (take n piece)) ≤ 1

-- The files of a `reload` line are being read.
abbrev pub in_texts : FrameState → Bool
in_texts Line = false
in_texts (TextsMode a) = true
in_texts Dead = false

-- There is at least one byte.
abbrev pub is_some_byte : List ℕ → Bool
is_some_byte [] = false
is_some_byte (b ∷ bs) = true

-- The stream is inside a line or a file.
abbrev pub has_rest : Scan → Bool
has_rest s = in_texts s.mode || is_some_byte s.held
