-- Who holds what, after an effect.
use Rattle.std.proofs.Common.{◌≡◌, ℕ, ◌+◌, ◌-◌, ◌≤◌, Bool, true, false, ◌&&◌, ◌==◌, [], ◌∷◌, refl, ap, subst, Option}
use Rattle.std.proofs.Common.{Some, None, if◌then◌else◌, arith}
use Rattle.std.specs.Prelude.{is_some, cond, not, unwrap_or}
use Rattle.std.specs.List.{list_any}
use Rattle.std.proofs.lemmas.Bool.Decides.{nat_tests}
use Rattle.std.proofs.lemmas.List.Sums.{sum_by-cons}
use Rattle.sm_values.specs.declared.number.Node.{Node}
use Rattle.sm_values.specs.declared.identity.Identity.{Identity}
use Rattle.sm_history.specs.Effects.{Effect, Effects, Connects, Dies, Gives, Releases, same_node}
use Rattle.sm_history.specs.Clients.{is_live}
use Rattle.sm_history.specs.Holdings.{refs_at, number_at, number_given, is_release_of}
use Rattle.sm_history.proofs.AfterClients.{IsNew, live_connects, live_dies, was_not_live}
use Rattle.std.proofs.lemmas.Bool.{or_parts}
use Rattle.sm_history.specs.Sound.{IsBalanced, granted, names, released}

not_given : (x : Effect) (c : ℕ) (m : Node) → names c x ≡ false → is_some (number_given c m x) ≡ false
not_given (Gives k n r) c m h = rw h refl
not_given x c m h = refl

none_granted : (d : Effects) (c : ℕ) (m : Node) → list_any (names c) d ≡ false → granted d c m ≡ 0
none_granted [] c m h = refl
none_granted (x ∷ d) c m h =
    let cons = sum_by-cons (λ (y : Effect). cond (is_some (number_given c m y)) 1 0) x d in
    let i = none_granted d c m (or_parts (names c x) (list_any (names c) d) h).1 in
    let z = ap (λ (b : Bool). let n : ℕ = cond b 1 0 in n)
    (not_given x c m (or_parts (names c x) (list_any (names c) d) h).0) in
    omega (arith, cons, i, z)

connects_case : (t live live' : Bool) (g s : ℕ) → live' ≡ (if t then true else live)
    → (t ≡ true → (live ≡ false) × (g ≡ 0)) → (if live' then g - s else 0) ≡ (if live then g - s else 0)
connects_case true live live' g s e new = let z = new refl in rw (e, z.0) (omega (arith, z.1))
connects_case false live live' g s e new = rw e refl

pub refs_connects : (d : Effects) (n : ℕ) (who : Identity) (c : ℕ) (m : Node) → IsNew d n
    → refs_at (Connects n who ∷ d) c m ≡ refs_at d c m
refs_connects d n who c m new =
    connects_case (n == c) (is_live d c) (is_live (Connects n who ∷ d) c) (granted d c m) (released d c m)
    (live_connects d n who c new)
    (λ e.
    let same : n ≡ c = grind (arith, nat_tests) in
    let new' : IsNew d c = subst (λ v. IsNew d v) same new in
    (was_not_live d c new', none_granted d c m new'))

pub refs_dies : (d : Effects) (c k : ℕ) (n : Node) → refs_at (Dies c ∷ d) k n ≡ (if c == k then 0 else refs_at d k n)
refs_dies d c k n =
    rw (live_dies d c k)
    (elim (c == k) as (λ t. (if is_live d k && not t then granted d k n - released d k n else 0)
    ≡ (if t then 0 else (if is_live d k then granted d k n - released d k n else 0))) [
      | true ↦ elim (is_live d k) as (λ l. (if l && false then granted d k n - released d k n else 0) ≡ 0)
          [ true ↦ refl | false ↦ refl ]
      | false ↦ elim (is_live d k) as (λ l. (if l && true then granted d k n - released d k n else 0)
          ≡ (if l then granted d k n - released d k n else 0)) [ true ↦ refl | false ↦ refl ]
    ])

gives_case : (b live : Bool) (r g s g' : ℕ) →
    (let o : Option ℕ = if b then Some r else None in g' ≡ cond (is_some o) 1 0 + g) → s ≤ g
    → (if live then g' - s else 0)
    ≡ (if b && live then (if live then g - s else 0) + 1 else (if live then g - s else 0))
gives_case true true r g s g' eg le = omega (arith, eg, le)
gives_case true false r g s g' eg le = refl
gives_case false true r g s g' eg le = omega (arith, eg)
gives_case false false r g s g' eg le = refl

pub refs_gives : (d : Effects) (c : ℕ) (n : Node) (r k : ℕ) (m : Node) → IsBalanced d
    → refs_at (Gives c n r ∷ d) k m
    ≡ (if ((c == k) && same_node n m) && is_live d k then refs_at d k m + 1 else refs_at d k m)
refs_gives d c n r k m bal =
    gives_case ((c == k) && same_node n m) (is_live d k) r (granted d k m) (released d k m)
    (granted (Gives c n r ∷ d) k m)
    (sum_by-cons (λ (y : Effect). cond (is_some (number_given k m y)) 1 0) (Gives c n r) d) (bal k m)

releases_case : (b live : Bool) (g s s' : ℕ) → s' ≡ cond b 1 0 + s
    → (if live then g - s' else 0) ≡ (if b then (if live then g - s else 0) - 1 else (if live then g - s else 0))
releases_case true true g s s' e = omega (arith, e)
releases_case true false g s s' e = refl
releases_case false true g s s' e = omega (arith, e)
releases_case false false g s s' e = refl

pub refs_releases : (d : Effects) (c : ℕ) (n : Node) (k : ℕ) (m : Node)
    → refs_at (Releases c n ∷ d) k m ≡ (if (c == k) && same_node n m then refs_at d k m - 1 else refs_at d k m)
refs_releases d c n k m =
    releases_case ((c == k) && same_node n m) (is_live d k) (granted d k m) (released d k m)
    (released (Releases c n ∷ d) k m)
    (sum_by-cons (λ (y : Effect). cond (is_release_of k m y) 1 0) (Releases c n) d)

pub number_gives : (d : Effects) (c : ℕ) (n : Node) (r k : ℕ) (m : Node)
    → number_at (Gives c n r ∷ d) k m ≡ (if (c == k) && same_node n m then r else number_at d k m)
number_gives d c n r k m =
    elim ((c == k) && same_node n m) as (λ b. unwrap_or (let o : Option ℕ = if b then Some r else None in o)
    (number_at d k m) ≡ (if b then r else number_at d k m)) [ true ↦ refl | false ↦ refl ]
