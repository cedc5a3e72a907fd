-- What is listed of a client's handles is what it holds under each number.
use Rattle.std.proofs.Common.{◌≡◌, ℕ, zero, suc, ◌+◌, List, [], refl, ap, sym, ◌∙◌, Option, Some, None, arith}
use Rattle.std.specs.Prelude.{option_map}
use Rattle.sm_values.specs.declared.number.Node.{Node}
use Rattle.sm_history.specs.Effects.{Effects}
use Rattle.sm_history.specs.Holdings.{refs_at, node_at}
use Rattle.sm_history.specs.Tables.{Slots, slot, slot_at}
use Rattle.sm_history.specs.declared.held.Held.{Held}
use Rattle.sm_grants.specs.declared.rows.ClientHandles.{ClientHandles}
use Rattle.sm_grants.specs.Slots.{node_of, HandleTable}
use Rattle.sm_grants.specs.Tracking.{TracksSlots}
use Rattle.sm_grants.specs.Rows.{TracksRows, table_of}
use Rattle.sm_grants.specs.Listed.{listed_slots}
use Rattle.sm_grants.proofs.Fits.{in_slots}
use Rattle.sm_grants.proofs.Tracked.{node_is_slot, node_zero}

slot_counts : (o : Option Held) (refs : Node → ℕ) → ((h : Held) → o ≡ Some h → refs h.node ≡ h.count)
    → o ≡ option_map (λ n. let h : Held = record { node = n; count = refs n } in h) (node_of o)
slot_counts None refs are = refl
slot_counts (Some h) refs are =
    ap (λ (n : ℕ). let o : Option Held = Some (record { node = h.node; count = n }) in o) (sym (are h refl))

listed_held : (d : Effects) (c : ℕ) (s : Slots) (k : ℕ) → TracksSlots d c s
    → slot (listed_slots s) k ≡ slot_at d c k
listed_held d c s zero t =
    sym (ap (option_map (λ n. let h : Held = record { node = n; count = refs_at d c n } in h)) (node_zero d c s t))
listed_held d c s (suc i) t =
    let one : suc i ≡ i + 1 = omega arith in
    slot_counts (slot s i) (refs_at d c) (λ h e. (t.held i h e).0)
    ∙ sym (ap (option_map (λ n. let h : Held = record { node = n; count = refs_at d c n } in h))
    (ap (node_at d c) one ∙ node_is_slot d c s i t))

pub listed_is : (d : Effects) (rows : List ClientHandles) (c : ℕ) (t : HandleTable) (xs : List (Option Held))
    → TracksRows d rows → table_of rows c ≡ Some t → xs ≡ listed_slots t.slots → (k : ℕ) → slot xs k ≡ slot_at d c k
listed_is d rows c t xs tr at is k =
    ap (λ (v : List (Option Held)). slot v k) is
    ∙ listed_held d c t.slots k (in_slots d rows c (Some t) tr at)

none_at : (k : ℕ) → slot [] k ≡ None
none_at zero = refl
none_at (suc k) = refl

none_listed : (d : Effects) (c k : ℕ) → TracksSlots d c [] → None ≡ slot_at d c k
none_listed d c k t = sym (first_none k) ∙ listed_held d c [] k t
  where
    first_none : (k : ℕ) → slot (listed_slots []) k ≡ None
    first_none zero = refl
    first_none (suc k) = none_at k

pub none_is : (d : Effects) (rows : List ClientHandles) (c : ℕ) (xs : List (Option Held))
    → TracksRows d rows → table_of rows c ≡ None → xs ≡ [] → (k : ℕ) → slot xs k ≡ slot_at d c k
none_is d rows c xs tr at is k =
    ap (λ (v : List (Option Held)). slot v k) is ∙ none_at k
    ∙ none_listed d c k (in_slots d rows c None tr at)
