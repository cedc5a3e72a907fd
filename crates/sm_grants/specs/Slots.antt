-- One client's handles: the slot at i has what is held under the number i + 1.
use Rattle.std.specs.Prelude.{ℕ, ◌+◌, ◌-◌, ◌/◌, ◌≡◌, ◌≤◌, ◌<◌, Bool, true, ◌&&◌, ◌==◌, List, [], ◌∷◌, Option, Some}
use Rattle.std.specs.Prelude.{None, is_some, length, count_by}
use Rattle.std.specs.List.{list_any}
use Rattle.sm_values.specs.declared.number.Node.{Node}
use Rattle.sm_bits.specs.Bits.{has}
use Rattle.sm_history.specs.Effects.{same_node}
use Rattle.sm_history.specs.declared.limits.TheConstants.{MOST_HANDLES}
use Rattle.sm_history.specs.declared.held.Held.{Held}
use Rattle.sm_history.specs.Tables.{Slots, slot, IsPut}

-- This is the object of a slot.
abbrev pub node_of : Option Held → Option Node
node_of None = None
node_of (Some h) = Some h.node

-- This is the count of a slot.
abbrev pub count_of : Option Held → ℕ
count_of None = 0
count_of (Some h) = h.count

-- This is the number of held objects.
abbrev pub held_in : Slots → ℕ
held_in s = count_by is_some s

-- These are the held objects.
abbrev pub nodes_in : Slots → List Node
nodes_in [] = []
nodes_in (None ∷ s) = nodes_in s
nodes_in (Some h ∷ s) = h.node ∷ nodes_in s

-- An object is held.
abbrev pub is_in : Slots → Node → Bool
is_in s n = list_any (same_node n) (nodes_in s)

-- No slot has the object.
abbrev pub IsAbsent : Slots → Node → Type 0
IsAbsent s n = (i : ℕ) → node_of (slot s i) ≡ Some n → ⊥

-- Slot i is the first free one.
abbrev pub IsFirstFree : Slots → ℕ → Type 0
IsFirstFree s i = (slot s i ≡ None) × ((j : ℕ) → j < i → is_some (slot s j) ≡ true)

-- This is an object's slot after one more grant.
abbrev pub granted_slot : Node → Option Held → Option Held
granted_slot n None = Some (record { node = n; count = 1 })
granted_slot n (Some h) = Some (record { node = h.node; count = h.count + 1 })

-- This is the number under which an object is held, or the least free one.
abbrev pub IsNumberFor : Slots → Node → ℕ → Type 0
IsNumberFor s n r =
    (i : ℕ) × (r ≡ i + 1) × ((m : Node) → node_of (slot s i) ≡ Some m → m ≡ n)
    × (slot s i ≡ None → IsAbsent s n × IsFirstFree s i)

-- The object was granted once more, in its own slot or in the first free one.
abbrev pub IsGranted : Slots → Slots → Node → ℕ → Type 0
IsGranted s t n r = IsNumberFor s n r × IsPut s t (r - 1) (granted_slot n (slot s (r - 1)))

-- ---- the index and the row of bits

-- The index finds an object by this key.
abbrev pub key_of : Node → ℕ × ℕ
key_of n = (n.owner.0, n.object)

-- Two keys are the same.
abbrev pub same_key : ℕ × ℕ → ℕ × ℕ → Bool
same_key a b = (a.0 == b.0) && (a.1 == b.1)

-- The objects of slots p are indexed: f finds the slot of each, and a row of bits has the slots in use.
pub record AreIndexed (p : ℕ → Option Node) (f : ℕ × ℕ → Option ℕ) (words : List ℕ) : Type 0 where
  pub index : (n : Node) (i : ℕ) → p i ≡ Some n → f (key_of n) ≡ Some i
  pub back : (n : Node) (i : ℕ) → f (key_of n) ≡ Some i → p i ≡ Some n
  pub bits : (j : ℕ) → has words j ≡ is_some (p j)
  pub room : length words ≡ MOST_HANDLES / 64

-- The parts of a client's handles fit together.
pub record AreHandles (s : Slots) (f : ℕ × ℕ → Option ℕ) (words : List ℕ) (many : ℕ) : Type 0 where
  pub indexed : AreIndexed (λ j. node_of (slot s j)) f words
  pub most : length s ≤ MOST_HANDLES
  pub many_held : held_in s ≡ many

-- Contracts see these of a client's handles: the slots, and the number of new objects for which there is room.
pub record HandleTable : Type 0 where
  pub slots : Slots
  pub spare : ℕ
