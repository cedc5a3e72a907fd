-- No more is released than was granted.
use Rattle.std.proofs.Common.{◌≡◌, ℕ, ◌+◌, ◌-◌, ◌≤◌, ◌<◌, Bool, true, false, ◌&&◌, ◌==◌, List, [], ◌∷◌, refl, ap, sym}
use Rattle.std.proofs.Common.{◌∙◌, subst, Option, Some, None, if◌then◌else◌, arith}
use Rattle.std.specs.Prelude.{filter, is_some, cond, nat_lt}
use Rattle.std.specs.List.{find}
use Rattle.std.proofs.lemmas.Bool.Decides.{nat_tests}
use Rattle.std.proofs.lemmas.Bool.{true≢false, and_parts}
use Rattle.std.proofs.lemmas.List.Sums.{sum_by-cons}
use Rattle.sm_values.specs.declared.number.Node.{Node}
use Rattle.sm_history.specs.Effects.{Effect, Effects, same_node, Releases}
use Rattle.sm_history.specs.Clients.{is_live}
use Rattle.sm_history.specs.Holdings.{is_held, given_nodes, number_at, node_at, number_given, is_release_of}
use Rattle.sm_history.specs.Histories.{found}
use Rattle.sm_history.proofs.Keeps.{Lasts}
use Rattle.sm_history.specs.Sound.{IsBalanced, granted, released}

pub step : (x : Effect) (d : Effects) → ((c : ℕ) (n : Node) → is_release_of c n x ≡ false) → IsBalanced d
    → IsBalanced (x ∷ d)
step x d none h c n =
    let g = sum_by-cons (λ (y : Effect). cond (is_some (number_given c n y)) 1 0) x d in
    let s = sum_by-cons (λ (y : Effect). cond (is_release_of c n y) 1 0) x d in
    let z = ap (λ (b : Bool). let m : ℕ = cond b 1 0 in m) (none c n) in
    let before = h c n in
    omega (arith, g, s, z, before)

pub balanced_lasts : Lasts IsBalanced
balanced_lasts (Releases c m) d plain h = absurd (true≢false (sym plain))
balanced_lasts x d plain h = step x d (λ c n. refl) h

pub number_same : (a b : ℕ) → (a == b) ≡ true → a ≡ b
number_same a b h = grind (arith, nat_tests)

pub turned : (k j : ℕ) → (k == j) ≡ (j == k)
turned k j = grind (arith, nat_tests)

pub node_same : (n m : Node) → same_node n m ≡ true → n ≡ m
node_same n m h =
    let o = number_same n.owner.0 m.owner.0 (and_parts (n.owner.0 == m.owner.0) (n.object == m.object) h).0 in
    let b = number_same n.object m.object (and_parts (n.owner.0 == m.owner.0) (n.object == m.object) h).1 in
    ap (λ (k : ℕ). let v : Node = record { owner = record { 0 = k }; object = n.object } in v) o
    ∙ ap (λ (k : ℕ). let v : Node = record { owner = m.owner; object = k } in v) b

held_more : (live : Bool) (g s : ℕ) → nat_lt 0 (if live then g - s else 0) ≡ true → s < g
held_more true g s h = grind (arith, nat_tests)
held_more false g s h = absurd (true≢false (sym h))

release_case : (b : Bool) (g s g' s' : ℕ) → g' ≡ g → s' ≡ cond b 1 0 + s → s ≤ g → (b ≡ true → s < g) → s' ≤ g'
release_case true g s g' s' eg es le more = let m = more refl in omega (arith, eg, es, m)
release_case false g s g' s' eg es le more = omega (arith, eg, es, le)

pub release : (d : Effects) (c : ℕ) (n : Node) → is_held d c n ≡ true → IsBalanced d → IsBalanced (Releases c n ∷ d)
release d c n held h k m =
    release_case ((c == k) && same_node n m) (granted d k m) (released d k m) (granted (Releases c n ∷ d) k m)
    (released (Releases c n ∷ d) k m)
    (let g = sum_by-cons (λ (y : Effect). cond (is_some (number_given k m y)) 1 0) (Releases c n) d in omega (arith, g))
    (sum_by-cons (λ (y : Effect). cond (is_release_of k m y) 1 0) (Releases c n) d)
    (h k m)
    (λ e.
    let who = number_same c k (and_parts (c == k) (same_node n m) e).0 in
    let what = node_same n m (and_parts (c == k) (same_node n m) e).1 in
    let own = held_more (is_live d c) (granted d c n) (released d c n) held in
    rw (← who, ← what) own)

found_kept : {X : Type 0} (p q : X → Bool) (xs : List X) (x : X) → find p (filter q xs) ≡ Some x → q x ≡ true
found_kept p q [] x h = cc
found_kept {X} p q (y ∷ ys) x h =
    elim (q y) as (λ b. q y ≡ b → find p (if b then y ∷ filter q ys else filter q ys) ≡ Some x → q x ≡ true) [
      | true ↦ λ e. elim (p y) as (λ t. (if t then Some y else find p (filter q ys)) ≡ Some x → q x ≡ true) [
        | true ↦ λ s. let same : y ≡ x = cc in subst (λ (v : X). q v ≡ true) same e
        | false ↦ λ s. found_kept p q ys x s
      ]
      | false ↦ λ e s. found_kept p q ys x s
    ] refl h

pub found_held : (d : Effects) (c r : ℕ) (o : Option Node) → node_at d c r ≡ o → is_some o ≡ true
    → is_held d c (found o) ≡ true
found_held d c r None e h = absurd (true≢false (sym h))
found_held d c r (Some n) e h = found_kept (λ m. number_at d c m == r) (is_held d c) (given_nodes d c) n e
