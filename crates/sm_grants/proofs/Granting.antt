-- When a grant can be made: in the handles of a client, and in words of the effects.
use Rattle.std.proofs.Common.{◌≡◌, ℕ, ◌+◌, ◌-◌, ◌<◌, ◌^◌, List, ◌∷◌, true, false, refl, ap, sym, ◌∙◌, length, Option}
use Rattle.std.proofs.Common.{Some, None, arith}
use Rattle.std.specs.Prelude.{nat_le}
use Rattle.std.proofs.lemmas.Bool.Decides.{nat_tests}
use Rattle.sm_values.specs.declared.number.Node.{Node}
use Rattle.sm_history.specs.Effects.{Effects}
use Rattle.sm_history.specs.declared.effect.Effect.TheVariants.{Gives}
use Rattle.sm_history.specs.Clients.{is_live}
use Rattle.sm_history.specs.Holdings.{refs_at, number_at, is_held, held_nodes, fits_handles}
use Rattle.sm_history.proofs.Grants.{count_gives}
use Rattle.sm_grants.specs.declared.grants.Grants.{Grants}
use Rattle.sm_history.specs.declared.held.Held.{Held}
use Rattle.sm_history.specs.declared.limits.TheConstants.{MOST_HANDLES}
use Rattle.sm_grants.specs.declared.rows.ClientHandles.{ClientHandles}
use Rattle.sm_history.specs.Tables.{slot}
use Rattle.sm_grants.specs.Slots.{HandleTable, node_of, count_of, held_in, IsAbsent}
use Rattle.sm_grants.specs.Rows.{table_of, slots_of, spare_for, Tracks, CanGrant, CanGrantRow}
use Rattle.sm_grants.proofs.Tracked.{not_held, held_count}
use Rattle.sm_grants.proofs.Small.{zero_test}

fits_more : (many : ℕ) → nat_le (many + 1) 65536 ≡ true → many < 65536
fits_more many h = grind (arith, nat_tests)

count_is : (o : Option Held) (n : Node) (refs : Node → ℕ) → node_of o ≡ Some n
    → ((h : Held) → o ≡ Some h → refs h.node ≡ h.count) → count_of o ≡ refs n
count_is None n refs here are = cc
count_is (Some h) n refs here are = let node : h.node ≡ n = cc in sym (are h refl) ∙ ap refs node

-- ---- in the row of a client

-- A grant can be made in one client's handles.
abbrev pub CanGrantIn : HandleTable → Node → Type 0
CanGrantIn t n =
    (IsAbsent t.slots n → (held_in t.slots < MOST_HANDLES) × (0 < t.spare))
    × ((i : ℕ) → node_of (slot t.slots i) ≡ Some n → count_of (slot t.slots i) < 2 ^ 64 - 1)

pub can_here : (rows : List ClientHandles) (c : ℕ) (n : Node) (t : HandleTable) → table_of rows c ≡ Some t
    → CanGrantIn t n → CanGrantRow rows c n
can_here rows c n t here can = record { placed = rw here can.0; few = rw here can.1 }

pub can_in : (rows : List ClientHandles) (c : ℕ) (n : Node) (t : HandleTable) → table_of rows c ≡ Some t
    → CanGrantRow rows c n → CanGrantIn t n
can_in rows c n t here can = (rw here at can.placed, rw here at can.few)

-- ---- in words of the effects

-- A grant can be made where the client has room for it, there is memory if the object is new, and its count can rise.
pub can_grant : (d : Effects) (g : Grants) (c : ℕ) (n : Node) (r : ℕ) → Tracks d g → is_live d c ≡ true
    → fits_handles (Gives c n r ∷ d) c ≡ true → (is_held d c n ≡ false → 0 < spare_for g c)
    → refs_at d c n < 2 ^ 64 - 1 → CanGrant g c n
can_grant d g c n r tr live fits spare few =
    let s = slots_of g.rows.items c in
    let t = tr.slots c in
    record {
      placed = λ absent.
          let none : is_held d c n ≡ false = zero_test (refs_at d c n)
          (not_held (refs_at d c) (number_at d c) s n t absent) in
          let one : length (held_nodes (Gives c n r ∷ d) c) ≡ length (held_nodes d c) + 1 =
          count_gives d c n r tr.balanced live ∙ rw none refl in
          let many : length (held_nodes (Gives c n r ∷ d) c) ≡ held_in s + 1 = one ∙
          ap (λ (k : ℕ). k + 1) (held_count d c s t) in
          (fits_more (held_in s) (sym (ap (λ (k : ℕ). nat_le k 65536) many) ∙ fits), spare none);
      few = λ i here.
          let count = count_is (slot s i) n (refs_at d c) here (λ h e. (t.held i h e).0) in
          omega (arith, count, few);
    }
