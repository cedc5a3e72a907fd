-- The references of a call, passed in order: their numbers, and the effects afterwards.
use Rattle.std.proofs.Common.{◌≡◌, ℕ, Bool, true, false, ◌&&◌, ◌==◌, List, [], ◌∷◌, refl, ap, sym, ◌∙◌, subst, Option}
use Rattle.std.proofs.Common.{Some, None, if◌then◌else◌}
use Rattle.std.specs.Prelude.{is_some}
use Rattle.std.proofs.lemmas.Bool.{true≢false, and_parts}
use Rattle.sm_values.specs.declared.number.Node.{Node}
use Rattle.sm_values.specs.declared.number.ObjRef.{ObjRef}
use Rattle.sm_values.specs.declared.number.ObjRef.TheVariants.{Own as OwnRef, Handle as HandleRef, Null as NullRef}
use Rattle.sm_history.specs.declared.delivery.Given.{Given}
use Rattle.sm_history.specs.declared.delivery.Given.TheVariants.{Handle, Own, Null}
use Rattle.sm_history.specs.Effects.{Effects, same_node}
use Rattle.sm_history.specs.declared.effect.Effect.TheVariants.{Gives}
use Rattle.sm_history.specs.Clients.{is_live}
use Rattle.sm_history.specs.Holdings.{is_held, number_at, number_for, node_at, resolve_at, handed, given_to}
use Rattle.sm_history.specs.Histories.{given_refs, handed_refs}
use Rattle.sm_history.specs.Verdict.{is_null}
use Rattle.sm_history.specs.Sound.{Sound}
use Rattle.sm_history.proofs.Balanced.{number_same, node_same}
use Rattle.sm_history.proofs.Grants.{held_gives}
use Rattle.sm_history.proofs.HeldAlike.{node_held, node_is}
use Rattle.sm_history.proofs.AfterHoldings.{number_gives}
use Rattle.sm_history.proofs.Sound.{sound_gives}
use Rattle.sm_history.proofs.AgreeNotices.{number_for_is}
use Rattle.sm_grants.specs.Several.{after_grants, numbers_for}
use Rattle.sm_grants.specs.Handing.{AreNamed, others, given_as}

sound_granted : (d : Effects) (c : ℕ) (n : Node) → Sound d → is_live d c ≡ true
    → Sound (Gives c n (number_for d c n) ∷ d)
sound_granted d c n s live = sound_gives d c n (number_for d c n) live (number_for_is d c n) s

-- What was held under a number is held under it after a grant.
node_stays : (d : Effects) (c k : ℕ) (m n : Node) (r : ℕ) → Sound d → is_live d c ≡ true → node_at d k r ≡ Some n
    → node_at (Gives c m (number_for d c m) ∷ d) k r ≡ Some n
node_stays d c k m n r s live at =
    let g = number_for d c m in
    let h = node_held d k r n at in
    node_is (Gives c m g ∷ d) k r n ((sound_granted d c m s live).single k)
    (held_gives d c m g k n s.balanced ∙ still ((c == k) && same_node m n) refl h.0)
    (number_gives d c m g k n ∙ number ((c == k) && same_node m n) refl h.0 h.1) where
      own : ((c == k) && same_node m n) ≡ true → (c ≡ k) × (m ≡ n)
      own e = let w = and_parts (c == k) (same_node m n) e in (number_same c k w.0, node_same m n w.1)

      still : (b : Bool) → ((c == k) && same_node m n) ≡ b → is_held d k n ≡ true →
          (if b then is_live d k else is_held d k n) ≡ true
      still true e h = subst (λ (v : ℕ). is_live d v ≡ true) (own e).0 live
      still false e h = h

      number : (b : Bool) → ((c == k) && same_node m n) ≡ b → is_held d k n ≡ true → number_at d k n ≡ r
          → (if b then number_for d c m else number_at d k n) ≡ r
      number true e h is = ap (λ (v : ℕ). number_for d v m) (own e).0 ∙
          ap (λ (v : Node). number_for d k v) (own e).1 ∙ rw h is
      number false e h is = is

named_stay : (d : Effects) (c from : ℕ) (m : Node) (rs : List ObjRef) (os : List (Option Node)) → Sound d
    → is_live d c ≡ true → AreNamed d from rs os → AreNamed (Gives c m (number_for d c m) ∷ d) from rs os
named_stay d c from m [] [] s live a = a
named_stay d c from m [] (o ∷ os) s live a = a
named_stay d c from m (r ∷ rs) [] s live a = a
named_stay d c from m (r ∷ rs) (o ∷ os) s live a =
    (resolved r o a.0 a.1, a.1, named_stay d c from m rs os s live a.2) where
      resolved : (r : ObjRef) (o : Option Node) → resolve_at d from r ≡ o → (is_null r ≡ false → is_some o ≡ true)
          → resolve_at (Gives c m (number_for d c m) ∷ d) from r ≡ o
      resolved NullRef o e some = e
      resolved (OwnRef x) o e some = e
      resolved (HandleRef x) None e some = absurd (true≢false (sym (some refl)))
      resolved (HandleRef x) (Some n) e some = node_stays d c from m n x s live e

own_first : (to : ℕ) (n : Node) (os : List (Option Node)) (numbers : List ℕ) → (n.owner.0 == to) ≡ true
    → Own n.object ∷ given_as to os numbers ≡ given_as to (Some n ∷ os) numbers
own_first to n os [] e = refl
own_first to n os (k ∷ numbers) e = rw e refl

other_first : (to : ℕ) (n : Node) (os : List (Option Node)) (k : ℕ) (numbers : List ℕ) → (n.owner.0 == to) ≡ false
    → Handle k ∷ given_as to os numbers ≡ given_as to (Some n ∷ os) (k ∷ numbers)
other_first to n os k numbers e = rw e refl

-- This is what the receiver of a call gets, and the effects after it was passed.
pub handed_are : (d : Effects) (from to : ℕ) (rs : List ObjRef) (os : List (Option Node)) → Sound d
    → is_live d to ≡ true → AreNamed d from rs os
    → (given_refs d from to rs ≡ given_as to os (numbers_for d to (others to os)))
    × (handed_refs d from to rs ≡ after_grants d to (others to os))
handed_are d from to [] [] s live a = (refl, refl)
handed_are d from to [] (o ∷ os) s live a = absurd a
handed_are d from to (r ∷ rs) [] s live a = absurd a
handed_are d from to (r ∷ rs) (None ∷ os) s live a =
    let i = handed_are d from to rs os s live a.2 in
    rw a.0 (ap (λ (gs : List Given). Null ∷ gs) i.0, i.1)
handed_are d from to (r ∷ rs) (Some n ∷ os) s live a =
    let i = handed_are d from to rs os s live a.2 in
    let j = handed_are (Gives to n (number_for d to n) ∷ d) from to rs os (sound_granted d to n s live) live
    (named_stay d to from n rs os s live a.2) in
    rw a.0 (
    elim (n.owner.0 == to) as (λ b. (n.owner.0 == to) ≡ b →
    (given_to d to n ∷ given_refs (handed d to n) from to rs
    ≡ given_as to (Some n ∷ os) (numbers_for d to (others to (Some n ∷ os))))
    × (handed_refs (handed d to n) from to rs ≡ after_grants d to (others to (Some n ∷ os)))) [
      | true ↦ λ e. rw e (
        ap (λ (gs : List Given). Own n.object ∷ gs) i.0 ∙
            own_first to n os (numbers_for d to (others to os)) e,
        i.1,
      )
      | false ↦ λ e. rw e (
        ap (λ (gs : List Given). Handle (number_for d to n) ∷ gs) j.0 ∙
            other_first to n os (number_for d to n) (numbers_for (Gives to n (number_for d to n) ∷ d) to (others to os))
            e,
        j.1,
      )
    ] refl)
