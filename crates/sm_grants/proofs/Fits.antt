-- Whether one more object can be held.
use Rattle.std.proofs.Common.{◌≡◌, ℕ, ◌+◌, ◌≤◌, Bool, true, false, List, ◌∷◌, refl, ap, sym, ◌∙◌, subst, length}
use Rattle.std.proofs.Common.{Option, Some, None, arith}
use Rattle.std.specs.Prelude.{nat_lt, IsTrue, ◌-◌}
use Rattle.std.proofs.lemmas.Bool.{true≢false}
use Rattle.std.proofs.lemmas.Bool.Decides.{nat_tests}
use Rattle.sm_values.specs.declared.number.Node.{Node}
use Rattle.sm_history.specs.Effects.{Effects}
use Rattle.sm_history.specs.declared.effect.Effect.TheVariants.{Gives}
use Rattle.sm_history.specs.Clients.{is_live}
use Rattle.sm_history.specs.Holdings.{refs_at, number_at, is_held, held_nodes, fits_handles}
use Rattle.sm_history.proofs.Grants.{count_gives}
use Rattle.sm_grants.specs.declared.rows.ClientHandles.{ClientHandles}
use Rattle.sm_history.specs.declared.held.Held.{Held}
use Rattle.sm_history.specs.Tables.{slot}
use Rattle.sm_grants.specs.Slots.{node_of, count_of, held_in, IsAbsent, HandleTable}
use Rattle.sm_grants.specs.Tracking.{TracksSlots}
use Rattle.sm_grants.specs.Rows.{table_of, slots_in, TracksRows}
use Rattle.sm_grants.proofs.Tracked.{not_held, held_slot, held_count}
use Rattle.sm_grants.proofs.Small.{zero_test, test_lt}

pub in_slots : (d : Effects) (rows : List ClientHandles) (c : ℕ) (o : Option HandleTable) → TracksRows d rows
    → table_of rows c ≡ o → TracksSlots d c (slots_in o)
in_slots d rows c o tr at = subst (λ (v : Option HandleTable). TracksSlots d c (slots_in v)) at (tr.slots c)

-- Absent: one more is held.
pub fits_new : (d : Effects) (rows : List ClientHandles) (c : ℕ) (n : Node) (r : ℕ) (o : Option HandleTable)
    → TracksRows d rows → is_live d c ≡ true → table_of rows c ≡ o → IsAbsent (slots_in o) n
    → fits_handles (Gives c n r ∷ d) c ≡ nat_lt (held_in (slots_in o)) 65536
fits_new d rows c n r o tr live at absent =
    let t = in_slots d rows c o tr at in
    let none = not_held (refs_at d c) (number_at d c) (slots_in o) n t absent in
    let many : length (held_nodes (Gives c n r ∷ d) c) ≡ held_in (slots_in o) + 1 =
    count_gives d c n r tr.balanced live ∙ rw (zero_test (refs_at d c n) none)
    (ap (λ (k : ℕ). k + 1) (held_count d c (slots_in o) t)) in
    rw many (grind (arith, nat_tests))

-- Held already: no more is held.
pub fits_old : (d : Effects) (rows : List ClientHandles) (c : ℕ) (n : Node) (r i : ℕ) (o : Option HandleTable)
    → TracksRows d rows → is_live d c ≡ true → table_of rows c ≡ o → node_of (slot (slots_in o) i) ≡ Some n
    → held_in (slots_in o) ≤ 65536 → fits_handles (Gives c n r ∷ d) c ≡ true
fits_old d rows c n r i o tr live at here most =
    let t = in_slots d rows c o tr at in
    let held : is_held d c n ≡ true = held_slot d c (slots_in o) i n t here in
    let many : length (held_nodes (Gives c n r ∷ d) c) ≡ held_in (slots_in o) = count_gives d c n r tr.balanced live ∙
    rw held (held_count d c (slots_in o) t) in
    rw many (grind (arith, nat_tests))

pub fits_is : (d : Effects) (rows : List ClientHandles) (c : ℕ) (n : Node) (r : ℕ) (o : Option HandleTable)
    (result : Bool) → TracksRows d rows → is_live d c ≡ true → table_of rows c ≡ o
    → (IsAbsent (slots_in o) n → result ≡ nat_lt (held_in (slots_in o)) 65536)
    → ((i : ℕ) → node_of (slot (slots_in o) i) ≡ Some n → IsTrue result × (held_in (slots_in o) ≤ 65536))
    → result ≡ fits_handles (Gives c n r ∷ d) c
fits_is d rows c n r o result tr live at absent held =
    let t = in_slots d rows c o tr at in
    elim (is_held d c n) as (λ b. is_held d c n ≡ b → result ≡ fits_handles (Gives c n r ∷ d) c) [
      | true ↦ λ e.
          let here = t.found n (test_lt (refs_at d c n) e) in
          let w = held (number_at d c n - 1) here in
          let true_is : result ≡ true = w.0 in
          true_is ∙ sym (fits_old d rows c n r (number_at d c n - 1) o tr live at here w.1)
      | false ↦ λ e.
          let none : IsAbsent (slots_in o) n = λ i p. absurd
          (true≢false (sym (held_slot d c (slots_in o) i n t p) ∙ e)) in
          absent none ∙ sym (fits_new d rows c n r o tr live at none)
    ] refl

-- How often an object is held.
pub held_count_is : (o : Option Held) (n : Node) (refs : Node → ℕ) → node_of o ≡ Some n
    → ((h : Held) → o ≡ Some h → refs h.node ≡ h.count) → count_of o ≡ refs n
held_count_is None n refs here are = cc
held_count_is (Some h) n refs here are = let node : h.node ≡ n = cc in sym (are h refl) ∙ ap refs node

zero_else : (v : ℕ) → nat_lt 0 v ≡ false → 0 ≡ v
zero_else v h = grind (arith, nat_tests)

pub count_is : (d : Effects) (rows : List ClientHandles) (c : ℕ) (n : Node) (o : Option HandleTable) (count : ℕ)
    → TracksRows d rows → table_of rows c ≡ o → (IsAbsent (slots_in o) n → count ≡ 0)
    → ((i : ℕ) → node_of (slot (slots_in o) i) ≡ Some n → count ≡ count_of (slot (slots_in o) i))
    → count ≡ refs_at d c n
count_is d rows c n o count tr at absent held =
    let t = in_slots d rows c o tr at in
    elim (is_held d c n) as (λ b. is_held d c n ≡ b → count ≡ refs_at d c n) [
      | true ↦ λ e.
          let i = number_at d c n - 1 in
          let here = t.found n (test_lt (refs_at d c n) e) in
          held i here ∙ held_count_is (slot (slots_in o) i) n (refs_at d c) here (λ h is. (t.held i h is).0)
      | false ↦ λ e.
          let none : IsAbsent (slots_in o) n = λ i p. absurd
          (true≢false (sym (held_slot d c (slots_in o) i n t p) ∙ e)) in
          absent none ∙ zero_else (refs_at d c n) e
    ] refl

pub count_none : (d : Effects) (rows : List ClientHandles) (c : ℕ) (n : Node) → TracksRows d rows
    → table_of rows c ≡ None → 0 ≡ refs_at d c n
count_none d rows c n tr at = count_is d rows c n None 0 tr at (λ absent. refl) (λ i here. cc)
