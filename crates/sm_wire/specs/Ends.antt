-- Where an item ends, and its result: the scan of its bytes, in one step.
use Rattle.std.specs.Prelude.{◌≡◌, ◌≢◌, ℕ, ◌+◌, ◌-◌, ◌<◌, ◌≤◌, List, [], ◌∷◌, length, take}
use Rattle.std.specs.List.{slice_index}
use Rattle.sm_wire.specs.declared.item.Item.{Item, TheVariants.LineTooLong}
use Rattle.sm_wire.specs.declared.kind.Kind.{Kind}
use Rattle.sm_wire.specs.declared.frame_state.FrameState.{FrameState}
use Rattle.sm_wire.specs.declared.frame_state.FrameState.TheVariants.{Line, Texts as TextsMode, Dead}
use Rattle.sm_wire.specs.declared.ends.End.{End, TheVariants.At, TheVariants.Later, TheVariants.Never}
use Rattle.sm_wire.specs.Items.{FrameStep, line_limit, scan_start, scan_dead, line_end, policy_item}

-- There is no newline among the first n bytes.
abbrev pub IsPlain : List ℕ → ℕ → Type 0
IsPlain bytes n = (k : ℕ) → k < n → slice_index bytes k ≢ 10

-- A line of which `held` bytes came before these ends so.
abbrev pub LineEndsAs : ℕ → List ℕ → End → Type 0
LineEndsAs held bytes (At n) = (0 < n) × (n ≤ length bytes) × (n - 1 ≤ line_limit - held) × IsPlain bytes (n - 1)
    × (slice_index bytes (n - 1) ≡ 10)
LineEndsAs held bytes Later = (length bytes ≤ line_limit - held) × IsPlain bytes (length bytes)
LineEndsAs held bytes Never = (line_limit - held < length bytes) × IsPlain bytes (line_limit - held + 1)

-- Files of this length, of which `held` bytes came before these, end so.
abbrev pub TextsEndAs : ℕ → ℕ → List ℕ → End → Type 0
TextsEndAs whole held bytes (At n) = (0 < n) × (n ≤ length bytes) × (held + n ≡ whole)
TextsEndAs whole held bytes Later = (k : ℕ) → 0 < k → k ≤ length bytes → held + k ≢ whole
TextsEndAs whole held bytes Never = ⊥

-- An item of which `held` bytes came before these ends so.
abbrev pub EndsAs : FrameState → ℕ → List ℕ → End → Type 0
EndsAs Line held bytes end = LineEndsAs held bytes end
EndsAs (TextsMode a) held bytes end = TextsEndAs (a.rules + a.contexts) held bytes end
EndsAs Dead held bytes (At n) = ⊥
EndsAs Dead held bytes Later = ⊥
EndsAs Dead held bytes Never = Unit {0}

-- The bytes may be a whole item: a line with its newline, or the header files.
abbrev pub IsWhole : FrameState → List ℕ → Type 0
IsWhole Line bytes = 0 < length bytes
IsWhole (TextsMode a) bytes = length bytes ≡ a.rules + a.contexts
IsWhole Dead bytes = Unit {0}

-- A whole item leads to this step.
unfoldable pub whole_step : Kind → FrameState → List ℕ → FrameStep
whole_step kind Line bytes = line_end kind (take (length bytes - 1) bytes)
whole_step kind (TextsMode a) bytes = (scan_start kind, policy_item a bytes ∷ [])
whole_step kind Dead bytes = (scan_dead kind, [])

-- These items are reported when no item ends any more.
abbrev pub never_items : FrameState → List Item
never_items Line = LineTooLong ∷ []
never_items (TextsMode a) = LineTooLong ∷ []
never_items Dead = []
