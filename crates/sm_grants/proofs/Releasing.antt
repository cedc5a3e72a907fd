-- A release of an object, by its slot.
use Rattle.std.proofs.Common.{◌≡◌, ℕ, true, false, List, ◌∷◌, Option, None, sym, ap, subst}
use Rattle.sm_values.specs.declared.number.Node.{Node}
use Rattle.sm_history.specs.Effects.{Effects}
use Rattle.sm_history.specs.declared.effect.Effect.TheVariants.{Releases}
use Rattle.sm_history.specs.Holdings.{refs_at, number_at, is_held}
use Rattle.sm_history.specs.Tables.{slot, IsPut, released_slot}
use Rattle.std.specs.Prelude.{Some}
use Rattle.sm_grants.specs.declared.rows.ClientHandles.{ClientHandles}
use Rattle.sm_grants.specs.Slots.{node_of, HandleTable, IsAbsent}
use Rattle.sm_grants.specs.Rows.{table_of, slots_in, slots_of, TracksRows}
use Rattle.sm_grants.proofs.ClientRows.{IsChanged, tracks_releases}
use Rattle.sm_grants.proofs.Small.{lt_test, zero_test}
use Rattle.sm_grants.proofs.Tracked.{held_some, not_held, some_slot}

-- An object that is in no slot isn't held.
pub absent_not : (d : Effects) (rows : List ClientHandles) (c : ℕ) (n : Node) → IsAbsent (slots_of rows c) n
    → TracksRows d rows → false ≡ is_held d c n
absent_not d rows c n absent tr = sym (zero_test (refs_at d c n)
    (not_held (refs_at d c) (number_at d c) (slots_of rows c) n (tr.slots c) absent))

-- A client without a row holds nothing.
pub none_not : (d : Effects) (rows : List ClientHandles) (c : ℕ) (n : Node) → table_of rows c ≡ None
    → TracksRows d rows → false ≡ is_held d c n
none_not d rows c n none tr =
    let empty = ap (λ (o : Option HandleTable). slots_in o) none in
    absent_not d rows c n (rw empty (λ i h. cc)) tr

-- The release of what a slot has is that of the object.
pub tracks_released : (d : Effects) (rows rows' : List ClientHandles) (c : ℕ) (t : HandleTable) (n : Node) (i : ℕ)
    → IsChanged rows rows' c t → node_of (slot (slots_of rows c) i) ≡ Some n
    → IsPut (slots_of rows c) t.slots i (released_slot (slot (slots_of rows c) i)) → TracksRows d rows
    → (true ≡ is_held d c n) × TracksRows (Releases c n ∷ d) rows'
tracks_released d rows rows' c t n i changed here put tr =
    let h = some_slot (slot (slots_of rows c) i) n here in
    let some = (held_some (refs_at d c) (number_at d c) (slots_of rows c) i n (tr.slots c) here).0 in (
      sym (lt_test (refs_at d c n) some),
      subst (λ (m : Node). TracksRows (Releases c m ∷ d) rows') h.2
          (tracks_releases d rows rows' c t h.0 i changed h.1 put tr),
    )
