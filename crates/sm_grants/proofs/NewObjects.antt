-- The number of held objects after grants in order.
use Rattle.std.proofs.Common.{◌≡◌, ℕ, ◌+◌, ◌-◌, ◌≤◌, Bool, true, false, ◌&&◌, ◌||◌, ◌==◌, List, [], ◌∷◌, ◌++◌, refl}
use Rattle.std.proofs.Common.{ap, sym, ◌∙◌, length, if◌then◌else◌, arith}
use Rattle.std.specs.Prelude.{nat_le}
use Rattle.std.specs.List.{list_any}
use Rattle.std.proofs.lemmas.Bool.{true≢false}
use Rattle.std.proofs.lemmas.Bool.Decides.{nat_tests}
use Rattle.sm_values.specs.declared.number.Node.{Node}
use Rattle.sm_history.specs.Effects.{Effects, same_node}
use Rattle.sm_history.specs.declared.effect.Effect.TheVariants.{Gives}
use Rattle.sm_history.specs.Clients.{is_live}
use Rattle.sm_history.specs.Holdings.{number_for, is_held, held_nodes, fits_handles}
use Rattle.sm_history.specs.Sound.{IsBalanced}
use Rattle.sm_history.proofs.Balanced.{balanced_lasts}
use Rattle.sm_history.proofs.Grants.{count_gives, held_gives}
use Rattle.sm_grants.specs.declared.rows.ClientHandles.{ClientHandles}
use Rattle.sm_grants.specs.Slots.{held_in, is_in}
use Rattle.sm_grants.specs.Rows.{slots_of, TracksRows}
use Rattle.sm_grants.specs.Several.{after_grants, new_among}
use Rattle.sm_grants.proofs.Tracked.{held_count, held_is_in}

new_alike : (p q : Node → Bool) → ((m : Node) → p m ≡ q m) → (ns : List Node) → new_among p ns ≡ new_among q ns
new_alike p q same [] = refl
new_alike p q same (n ∷ ns) =
    rw (
      same n,
      new_alike (λ m. same_node n m || p m) (λ m. same_node n m || q m)
          (λ m. ap (λ b. same_node n m || b) (same m)) ns,
    ) refl

more_case : (a b c : Bool) → (let n : ℕ = if (a || b) || c then 0 else 1 in n) ≡ (if b || (a || c) then 0 else 1)
more_case true true c = refl
more_case true false c = refl
more_case false true c = refl
more_case false false c = refl

-- One more object of a list counts if it isn't held and isn't earlier in the list.
pub new_more : (p : Node → Bool) (ns : List Node) (n : Node)
    → new_among p (ns ++ n ∷ []) ≡ new_among p ns + (if p n || list_any (λ m. same_node m n) ns then 0 else 1)
new_more p [] n = elim (p n) as (λ b. (let k : ℕ = (if b then 0 else 1) + 0 in k) ≡ 0 + (if b || false then 0 else 1))
    [ true ↦ refl | false ↦ refl ]
new_more p (m ∷ ns) n =
    let i = new_more (λ k. same_node m k || p k) ns n in
    let c = more_case (same_node m n) (p n) (list_any (λ k. same_node k n) ns) in
    omega (arith, i, c)

grant_case : (own same live b : Bool) → own ≡ true → live ≡ true → (if own && same then live else b) ≡ (same || b)
grant_case true true true b p q = refl
grant_case true true false b p q = absurd (true≢false (sym q))
grant_case true false live b p q = refl
grant_case false same live b p q = absurd (true≢false (sym p))

-- As many more are held as were new.
pub held_after : (d : Effects) (c : ℕ) (ns : List Node) → IsBalanced d → is_live d c ≡ true
    → length (held_nodes (after_grants d c ns) c) ≡ length (held_nodes d c) + new_among (is_held d c) ns
held_after d c [] bal live = omega arith
held_after d c (n ∷ ns) bal live =
    let r = number_for d c n in
    let d' = Gives c n r ∷ d in
    let self : (c == c) ≡ true = grind (arith, nat_tests) in
    let adds : (m : Node) → is_held d' c m ≡ (same_node n m || is_held d c m) = λ m. held_gives d c n r c m bal ∙
    grant_case (c == c) (same_node n m) (is_live d c) (is_held d c m) self live in
    let one = count_gives d c n r bal live in
    let i = held_after d' c ns (balanced_lasts (Gives c n r) d refl bal) live in
    let rest = new_alike (is_held d' c) (λ m. same_node n m || is_held d c m) adds ns in
    i ∙ rw (one, rest) (elim (is_held d c n) as (λ b. (let k : ℕ =
    if b then length (held_nodes d c) else length (held_nodes d c) + 1 in k) + new_among
    (λ m. same_node n m || is_held d c m) ns
    ≡ length (held_nodes d c) + ((if b then 0 else 1) + new_among (λ m. same_node n m || is_held d c m) ns))
    [ true ↦ omega arith | false ↦ omega arith ])

pub room_is : (d : Effects) (rows : List ClientHandles) (c : ℕ) (ns : List Node) (many new : ℕ) → TracksRows d rows
    → is_live d c ≡ true → many ≡ held_in (slots_of rows c) → many ≤ 65536
    → new ≡ new_among (is_in (slots_of rows c)) ns → nat_le new (65536 - many) ≡ fits_handles (after_grants d c ns) c
room_is d rows c ns many new tr live many_is most new_is =
    let s = slots_of rows c in
    let a = held_after d c ns tr.balanced live in
    let b = held_count d c s (tr.slots c) in
    let e = new_alike (is_held d c) (is_in s) (λ m. held_is_in d c s m (tr.slots c)) ns in
    let total : length (held_nodes (after_grants d c ns) c) ≡ many + new = omega (arith, a, b, e, many_is, new_is) in
    rw total (grind (arith, nat_tests))
