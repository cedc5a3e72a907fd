-- The highest count of grants: which counts it bounds, and what changes of rows make of it.
use Rattle.std.proofs.Common.{inl, inr, ◌∙◌, ◌≡◌, ℕ, zero, suc, ◌+◌, ◌-◌, ◌≤◌, ◌<◌, true, false, ◌==◌, List, [], ◌∷◌}
use Rattle.std.proofs.Common.{set, Option, Some, None, if◌then◌else◌, refl, ap, subst, arith}
use Rattle.std.specs.Prelude.{max, min, nat_le}
use Rattle.std.specs.List.{insert, remove}
use Rattle.std.proofs.lemmas.Bool.{cases_lt}
use Rattle.sm_values.specs.declared.number.Node.{Node}
use Rattle.sm_history.specs.Effects.{Effects}
use Rattle.sm_history.specs.Holdings.{refs_at, number_at}
use Rattle.sm_history.specs.declared.held.Held.{Held}
use Rattle.sm_grants.specs.declared.rows.ClientHandles.{ClientHandles}
use Rattle.sm_history.specs.Tables.{Slots, slot, IsPut, released_slot}
use Rattle.sm_grants.specs.Slots.{node_of, count_of, HandleTable, IsGranted, granted_slot}
use Rattle.sm_grants.specs.Rows.{table_of, slots_in, slots_of, TracksRows}
use Rattle.sm_grants.specs.Highest.{highest_in, highest}
use Rattle.sm_grants.proofs.Fits.{held_count_is}

-- ---- one client

pub slot_bounded : (s : Slots) (i : ℕ) → count_of (slot s i) ≤ highest_in s
slot_bounded [] i = omega arith
slot_bounded (x ∷ s) zero = omega arith
slot_bounded (x ∷ s) (suc i) = let rest = slot_bounded s i in omega (arith, rest)

-- What bounds each count bounds the highest one.
pub highest_least : (s : Slots) (m : ℕ) → ((i : ℕ) → count_of (slot s i) ≤ m) → highest_in s ≤ m
highest_least [] m each = omega arith
highest_least (x ∷ s) m each =
    let first : count_of x ≤ m = each 0 in
    let rest = highest_least s m (λ i. each (suc i)) in
    omega (arith, first, rest)

-- One slot changed.
put_bounded : (s t : Slots) (i m : ℕ) (x : Option Held) → IsPut s t i x → count_of x ≤ m → highest_in s ≤ m
    → highest_in t ≤ m
put_bounded s t i m x put here all = highest_least t m (λ j.
    rw (put j) (elim (j == i) as (λ b. count_of (let o : Option Held = if b then x else slot s j in o) ≤ m) [
      | true ↦ here
      | false ↦ let le = slot_bounded s j in omega (arith, le, all)
    ]))

granted_count : (o : Option Held) (n : Node) → count_of (granted_slot n o) ≡ count_of o + 1
granted_count None n = omega arith
granted_count (Some h) n = omega arith

-- After one grant no count is more than one above the bound.
pub granted_bounded : (s t : Slots) (n : Node) (r m most : ℕ) → IsGranted s t n r
    → ((i : ℕ) → node_of (slot s i) ≡ Some n → count_of (slot s i) < most) → highest_in s ≤ m → m ≤ most → 0 < most
    → highest_in t ≤ min (m + 1) most
granted_bounded s t n r m most g few all le some =
    let i = g.0.0 in
    let at = g.0.1 in
    let place : r - 1 ≡ i = omega (arith, at) in
    let put : IsPut s t i (granted_slot n (slot s i)) = rw (← place) g.1 in
    let count = granted_count (slot s i) n in
    let here = slot_bounded s i in
    let own : count_of (slot s i) < most =
    elim (slot s i) as (λ o. slot s i ≡ o → count_of o < most) [
      | None ↦ λ e. omega (arith, some)
      | Some h ↦ λ e. subst (λ (o : Option Held). count_of o < most) e
          (few i (ap (λ (o : Option Held). node_of o) e
          ∙ ap (λ (m : Node). Some m) (g.0.2 h.node (ap (λ (o : Option Held). node_of o) e))))
    ] refl in
    put_bounded s t i (min (m + 1) most) (granted_slot n (slot s i)) put (omega (arith, count, here, own, all))
    (omega (arith, all, le))

released_count : (o : Option Held) → count_of (released_slot o) ≤ count_of o
released_count None = omega arith
released_count (Some h) =
    elim (nat_le h.count 1) as (λ b. count_of (let o : Option Held = if b then None
    else Some (record { node = h.node; count = h.count - 1 }) in o) ≤ h.count)
    [ true ↦ omega arith | false ↦ omega arith ]

pub released_bounded : (s t : Slots) (i m : ℕ) → IsPut s t i (released_slot (slot s i)) → highest_in s ≤ m
    → highest_in t ≤ m
released_bounded s t i m put all =
    let less = released_count (slot s i) in
    let here = slot_bounded s i in
    put_bounded s t i m (released_slot (slot s i)) put (omega (arith, less, here, all)) all

-- ---- all clients

pub client_bounded : (rows : List ClientHandles) (c : ℕ) → highest_in (slots_of rows c) ≤ highest rows
client_bounded [] c = omega arith
client_bounded (r ∷ rows) c =
    let rest = client_bounded rows c in
    elim (r.client == c) as (λ b. highest_in (slots_in (let o : Option HandleTable = if b then Some r.handles
    else table_of rows c in o)) ≤ max (highest_in r.handles.slots) (highest rows))
    [ true ↦ omega arith | false ↦ omega (arith, rest) ]

pub set_bounded : (rows : List ClientHandles) (i m : ℕ) (r : ClientHandles) → highest rows ≤ m
    → highest_in r.handles.slots ≤ m → highest (set rows i r) ≤ m
set_bounded [] i m r all own = omega (arith, all)
set_bounded (x ∷ rows) zero m r all own = omega (arith, all, own)
set_bounded (x ∷ rows) (suc i) m r all own =
    let rest = set_bounded rows i m r (omega (arith, all)) own in omega (arith, all, rest)

pub inserted_bounded : (rows : List ClientHandles) (i m : ℕ) (r : ClientHandles) → highest rows ≤ m
    → r.handles.slots ≡ [] → highest (insert rows i r) ≤ m
inserted_bounded [] zero m r all none =
    let own : highest_in r.handles.slots ≡ 0 = ap highest_in none in omega (arith, own)
inserted_bounded [] (suc i) m r all none =
    let own : highest_in r.handles.slots ≡ 0 = ap highest_in none in omega (arith, own)
inserted_bounded (x ∷ rows) zero m r all none =
    let own : highest_in r.handles.slots ≡ 0 = ap highest_in none in omega (arith, own, all)
inserted_bounded (x ∷ rows) (suc i) m r all none =
    let rest = inserted_bounded rows i m r (omega (arith, all)) none in omega (arith, all, rest)

pub removed_bounded : (rows : List ClientHandles) (i m : ℕ) → highest rows ≤ m → highest (remove rows i) ≤ m
removed_bounded [] zero m all = omega (arith, all)
removed_bounded [] (suc i) m all = omega (arith, all)
removed_bounded (x ∷ rows) zero m all = omega (arith, all)
removed_bounded (x ∷ rows) (suc i) m all =
    let rest = removed_bounded rows i m (omega (arith, all)) in omega (arith, all, rest)

-- Each count of a history is bounded by that of its table.
pub refs_bounded : (d : Effects) (rows : List ClientHandles) (m c : ℕ) (n : Node) → TracksRows d rows
    → highest rows ≤ m → refs_at d c n ≤ m
refs_bounded d rows m c n tr all =
    let t = tr.slots c in
    let s = slots_of rows c in
    let i = number_at d c n - 1 in
    elim (cases_lt 0 (refs_at d c n)) [
      | inl lt ↦
          let here = t.found n lt in
          let count = held_count_is (slot s i) n (refs_at d c) here (λ h is. (t.held i h is).0) in
          let in_slot = slot_bounded s i in
          let in_rows = client_bounded rows c in
          omega (arith, count, in_slot, in_rows, all)
      | inr le ↦ omega (arith, le)
    ]
