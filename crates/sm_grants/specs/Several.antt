-- Several objects, granted to one client in order.
use Rattle.std.specs.Prelude.{ℕ, ◌+◌, ◌-◌, ◌≡◌, ◌≤◌, ◌<◌, Bool, true, false, ◌||◌, List, [], ◌∷◌, Option, Some, None}
use Rattle.std.specs.Prelude.{is_some, length, if◌then◌else◌}
use Rattle.std.specs.List.{list_any}
use Rattle.std.proofs.Common.{suc, zero, get_or}
use Rattle.sm_values.specs.declared.number.Node.{Node}
use Rattle.sm_history.specs.Effects.{Effects, same_node}
use Rattle.sm_history.specs.declared.effect.Effect.TheVariants.{Gives}
use Rattle.sm_history.specs.Holdings.{number_for}
use Rattle.sm_history.specs.declared.held.Held.{Held}
use Rattle.sm_history.specs.Tables.{Slots, slot}
use Rattle.sm_grants.specs.Slots.{node_of, IsAbsent, IsNumberFor, granted_slot}

-- These are the effects after objects were granted to a client in order.
abbrev pub after_grants : Effects → ℕ → List Node → Effects
after_grants d c [] = d
after_grants d c (n ∷ ns) = after_grants (Gives c n (number_for d c n) ∷ d) c ns

-- These are the numbers of the grants: each is that of the object if the client holds it by then, otherwise the least
-- free one.
abbrev pub numbers_for : Effects → ℕ → List Node → List ℕ
numbers_for d c [] = []
numbers_for d c (n ∷ ns) = number_for d c n ∷ numbers_for (Gives c n (number_for d c n) ∷ d) c ns

-- This is the number of objects that aren't held, each counted once.
abbrev pub new_among : (Node → Bool) → List Node → ℕ
new_among held [] = 0
new_among held (n ∷ ns) = (if held n then 0 else 1) + new_among (λ m. same_node n m || held m) ns

-- ---- slots

-- These are the slots with x at i.
abbrev pub put_at : Slots → ℕ → Option Held → Slots
put_at [] zero x = x ∷ []
put_at [] (suc i) x = None ∷ put_at [] i x
put_at (y ∷ s) zero x = x ∷ s
put_at (y ∷ s) (suc i) x = y ∷ put_at s i x

-- These are the slots after one grant under a number.
abbrev pub with_grant : Slots → Node → ℕ → Slots
with_grant s n r = put_at s (r - 1) (granted_slot n (slot s (r - 1)))

-- These are the slots after grants in order.
abbrev pub with_grants : Slots → List Node → List ℕ → Slots
with_grants s [] rs = s
with_grants s (n ∷ ns) [] = s
with_grants s (n ∷ ns) (r ∷ rs) = with_grants (with_grant s n r) ns rs

-- The numbers are those of grants in order.
abbrev pub AreNumbersFor : Slots → List Node → List ℕ → Type 0
AreNumbersFor s [] [] = Unit {0}
AreNumbersFor s [] (r ∷ rs) = ⊥
AreNumbersFor s (n ∷ ns) [] = ⊥
AreNumbersFor s (n ∷ ns) (r ∷ rs) = IsNumberFor s n r × AreNumbersFor (with_grant s n r) ns rs

-- The slots t are the slots s after grants of ns under rs. Those below `behind` are in use, and those from it on are as
-- free as they were.
pub record Along (s t : Slots) (ns : List Node) (rs : List ℕ) (behind : ℕ) : Type 0 where
  pub kept : (j : ℕ) (n : Node) → node_of (slot s j) ≡ Some n → node_of (slot t j) ≡ Some n
  pub given : (p : ℕ) (n : Node) → p < length ns
      → (0 < get_or rs p 0) × (node_of (slot t (get_or rs p 0 - 1)) ≡ Some (get_or ns p n))
  pub only : (j : ℕ) (n : Node) → node_of (slot t j) ≡ Some n → IsAbsent s n → list_any (λ m. same_node m n) ns ≡ true
  pub taken : (j : ℕ) → j < behind → is_some (slot t j) ≡ true
  pub free : (j : ℕ) → behind ≤ j → is_some (slot s j) ≡ false → is_some (slot t j) ≡ false
