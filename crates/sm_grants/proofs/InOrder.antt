-- Grants of several objects to one client, in order.
use Rattle.std.proofs.Common.{inl, inr, ◌≡◌, ℕ, zero, suc, ◌+◌, ◌-◌, ◌≤◌, ◌<◌, true, false, ◌||◌, ◌==◌, List, [], ◌∷◌}
use Rattle.std.proofs.Common.{◌++◌, refl, ap, sym, ◌∙◌, subst, length, get_or, Option, Some, None, if◌then◌else◌, arith}
use Rattle.std.specs.Prelude.{is_some}
use Rattle.std.specs.List.{list_any}
use Rattle.std.proofs.lemmas.Bool.{true≢false, cases_lt, cases_eq}
use Rattle.std.proofs.lemmas.Bool.Decides.{nat_tests}
use Rattle.std.proofs.lemmas.List.{get_or_append_left, get_or-append_right, length-append}
use Rattle.std.proofs.lemmas.List.Folds.{list_any-append}
use Rattle.sm_values.specs.declared.number.Node.{Node}
use Rattle.sm_history.specs.Effects.{Effects, same_node}
use Rattle.sm_history.specs.declared.effect.Effect.TheVariants.{Gives}
use Rattle.sm_history.specs.Clients.{is_live}
use Rattle.sm_history.specs.Sound.{IsBalanced}
use Rattle.sm_history.proofs.Balanced.{balanced_lasts, number_same}
use Rattle.sm_history.proofs.Grants.{same_self}
use Rattle.sm_history.specs.declared.held.Held.{Held}
use Rattle.sm_history.specs.Tables.{Slots, slot, IsPut}
use Rattle.sm_grants.specs.Slots.{node_of, IsAbsent, IsNumberFor, granted_slot}
use Rattle.sm_grants.specs.Tracking.{TracksSlots}
use Rattle.sm_grants.specs.Several.{numbers_for, put_at, with_grant, with_grants, AreNumbersFor, Along}
use Rattle.sm_grants.proofs.ClientRows.{number_is, slots_gives}
use Rattle.sm_grants.proofs.Small.{some_node, has_some, has_none}

-- ---- slots, written at a place

put_is : (s : Slots) (i : ℕ) (x : Option Held) → IsPut s (put_at s i x) i x
put_is [] zero x zero = refl
put_is [] zero x (suc j) = let e : (suc j == 0) ≡ false = grind (arith, nat_tests) in rw e refl
put_is [] (suc i) x zero = let e : (0 == suc i) ≡ false = grind (arith, nat_tests) in rw e refl
put_is [] (suc i) x (suc j) = let e : (suc j == suc i) ≡ (j == i) = grind (arith, nat_tests) in rw e (put_is [] i x j)
put_is (y ∷ s) zero x zero = refl
put_is (y ∷ s) zero x (suc j) = let e : (suc j == 0) ≡ false = grind (arith, nat_tests) in rw e refl
put_is (y ∷ s) (suc i) x zero = let e : (0 == suc i) ≡ false = grind (arith, nat_tests) in rw e refl
put_is (y ∷ s) (suc i) x (suc j) = let e : (suc j == suc i) ≡ (j == i) = grind (arith, nat_tests) in
    rw e (put_is s i x j)

grant_is : (s : Slots) (n : Node) (r : ℕ) → IsPut s (with_grant s n r) (r - 1) (granted_slot n (slot s (r - 1)))
grant_is s n r = put_is s (r - 1) (granted_slot n (slot s (r - 1)))

-- ---- the numbers are those of the definitions

pub numbers_are : (d : Effects) (c : ℕ) (s : Slots) (ns : List Node) (rs : List ℕ) → IsBalanced d → is_live d c ≡ true
    → TracksSlots d c s → AreNumbersFor s ns rs → rs ≡ numbers_for d c ns
numbers_are d c s [] [] bal live t are = refl
numbers_are d c s [] (r ∷ rs) bal live t are = absurd are
numbers_are d c s (n ∷ ns) [] bal live t are = absurd are
numbers_are d c s (n ∷ ns) (r ∷ rs) bal live t are =
    let own = slots_gives d c s (with_grant s n r) n r bal live t are.0 (grant_is s n r) in
    let rest = numbers_are (Gives c n r ∷ d) c (with_grant s n r) ns rs (balanced_lasts (Gives c n r) d refl bal) live
    own are.1 in
    ap (λ (v : List ℕ). r ∷ v) rest ∙ ap (λ (v : ℕ). v ∷ numbers_for (Gives c n v ∷ d) c ns)
    (number_is d c s n r t are.0)

-- ---- one more

pub numbers_more : (s : Slots) (ns : List Node) (rs : List ℕ) (n : Node) (r : ℕ) → AreNumbersFor s ns rs
    → IsNumberFor (with_grants s ns rs) n r → AreNumbersFor s (ns ++ n ∷ []) (rs ++ r ∷ [])
numbers_more s [] [] n r are is = (is, tt)
numbers_more s [] (q ∷ rs) n r are is = absurd are
numbers_more s (m ∷ ns) [] n r are is = absurd are
numbers_more s (m ∷ ns) (q ∷ rs) n r are is = (are.0, numbers_more (with_grant s m q) ns rs n r are.1 is)

pub grants_more : (s : Slots) (ns : List Node) (rs : List ℕ) (n : Node) (r : ℕ) → AreNumbersFor s ns rs
    → with_grants s (ns ++ n ∷ []) (rs ++ r ∷ []) ≡ with_grant (with_grants s ns rs) n r
grants_more s [] [] n r are = refl
grants_more s [] (q ∷ rs) n r are = absurd are
grants_more s (m ∷ ns) [] n r are = absurd are
grants_more s (m ∷ ns) (q ∷ rs) n r are = grants_more (with_grant s m q) ns rs n r are.1

-- A slot has the object that it had, and that of the grant has the granted one.
stays : (t t' : Slots) (n : Node) (i : ℕ) → IsPut t t' i (granted_slot n (slot t i)) → (j : ℕ) (m : Node)
    → node_of (slot t j) ≡ Some m → node_of (slot t' j) ≡ Some m
stays t t' n i put j m h =
    ap (λ (o : Option Held). node_of o) (put j)
    ∙ elim (j == i) as (λ b. (j == i) ≡ b → node_of (if b then granted_slot n (slot t i) else slot t j) ≡ Some m) [
      | true ↦ λ e. again (slot t i) n m (subst (λ (v : ℕ). node_of (slot t v) ≡ Some m) (number_same j i e) h)
      | false ↦ λ e. h
    ] refl where
      again : (o : Option Held) (n m : Node) → node_of o ≡ Some m → node_of (granted_slot n o) ≡ Some m
      again None n m h = cc
      again (Some x) n m h = h

made : (t : Slots) (n : Node) (r : ℕ) → IsNumberFor t n r → node_of (granted_slot n (slot t (r - 1))) ≡ Some n
made t n r is =
    let at = is.1 in
    let place : is.0 ≡ r - 1 = omega (arith, at) in
    elim (slot t (r - 1)) as (λ o. slot t (r - 1) ≡ o → node_of (granted_slot n o) ≡ Some n) [
      | None ↦ λ e. refl
      | Some x ↦ λ e.
          let here : node_of (slot t is.0) ≡ Some x.node = ap (λ (v : ℕ). node_of (slot t v)) place ∙
          ap (λ (o : Option Held). node_of o) e in
          ap (λ (v : Node). Some v) (is.2 x.node here)
    ] refl

among_more : (ns : List Node) (n m : Node) → list_any (λ (k : Node). same_node k m) ns ≡ true
    → list_any (λ (k : Node). same_node k m) (ns ++ n ∷ []) ≡ true
among_more ns n m h = list_any-append (λ (k : Node). same_node k m) ns (n ∷ []) ∙ rw h refl

among_last : (ns : List Node) (n : Node) → list_any (λ (k : Node). same_node k n) (ns ++ n ∷ []) ≡ true
among_last ns n =
    list_any-append (λ (k : Node). same_node k n) ns (n ∷ [])
    ∙ rw (same_self n) (elim (list_any (λ (k : Node). same_node k n) ns) as (λ b. (b || true) ≡ true)
    [ true ↦ refl | false ↦ refl ])

along_more : (s t t' : Slots) (ns : List Node) (rs : List ℕ) (n : Node) (r behind behind' : ℕ) → Along s t ns rs behind
    → length ns ≡ length rs → 0 < r → IsNumberFor t n r → IsPut t t' (r - 1) (granted_slot n (slot t (r - 1)))
    → ((j : ℕ) → j < behind' → is_some (slot t' j) ≡ true)
    → ((j : ℕ) → behind' ≤ j → is_some (slot s j) ≡ false → is_some (slot t' j) ≡ false)
    → Along s t' (ns ++ n ∷ []) (rs ++ r ∷ []) behind'
along_more s t t' ns rs n r behind behind' a as_many some is put taken free = record {
  kept = λ j m h. stays t t' n (r - 1) put j m (a.kept j m h);
  given = λ p m lt. elim (cases_lt p (length ns)) [
    | inl less ↦
        let w = a.given p m less in
        let node = get_or_append_left ns (n ∷ []) m p less in
        let number : get_or (rs ++ r ∷ []) p 0 ≡ get_or rs p 0 =
        get_or_append_left rs (r ∷ []) 0 p (omega (arith, less, as_many)) in
        rw (number, node) (w.0, stays t t' n (r - 1) put (get_or rs p 0 - 1) (get_or ns p m) w.1)
    | inr more ↦
        let long = length-append ns (n ∷ []) in
        let at : p ≡ length ns = omega (arith, lt, long, more) in
        let node : get_or (ns ++ n ∷ []) p m ≡ n = get_or-append_right ns (n ∷ []) (length ns) p m refl more ∙
        (let z : p - length ns ≡ 0 = omega (arith, at) in rw z refl) in
        let number : get_or (rs ++ r ∷ []) p 0 ≡ r = get_or-append_right rs (r ∷ []) (length rs) p 0 refl
        (omega (arith, more, as_many)) ∙ (let z : p - length rs ≡ 0 = omega (arith, at, as_many) in rw z refl) in
        rw (number, node) (some, here)
  ];
  only = λ j m h absent. elim (j == r - 1) as (λ b. (j == r - 1) ≡ b →
      list_any (λ (k : Node). same_node k m) (ns ++ n ∷ []) ≡ true) [
        | true ↦ λ e.
            let there : node_of (slot t' (r - 1)) ≡ Some m = rw (← number_same j (r - 1) e) h in
            rw (← some_node n m (sym here ∙ there)) (among_last ns n)
        | false ↦ λ e.
            let was : slot t' j ≡ slot t j = put j ∙ rw e refl in
            among_more ns n m (a.only j m (sym (ap (λ (o : Option Held). node_of o) was) ∙ h) absent)
      ] refl;
  taken = taken;
  free = free;
} where
  here : node_of (slot t' (r - 1)) ≡ Some n
  here = let e : (r - 1 == r - 1) ≡ true = grind (arith, nat_tests) in
      ap (λ (o : Option Held). node_of o) (put (r - 1) ∙ rw e refl) ∙ made t n r is

-- ---- an object that is held, or was granted before

pub number_here : (t : Slots) (n : Node) (r : ℕ) → 0 < r → node_of (slot t (r - 1)) ≡ Some n → IsNumberFor t n r
number_here t n r some h = (
  r - 1,
  omega (arith, some),
  (λ m g. some_node m n (sym g ∙ h)),
  (λ none. absurd (true≢false (sym (has_some (slot t (r - 1)) n h) ∙ ap (λ (o : Option Held). is_some o) none))),
)

same_taken : (t t' : Slots) (n : Node) (i : ℕ) → IsPut t t' i (granted_slot n (slot t i)) → is_some (slot t i) ≡ true
    → (j : ℕ) → is_some (slot t' j) ≡ is_some (slot t j)
same_taken t t' n i put some j =
    ap (λ (o : Option Held). is_some o) (put j)
    ∙ elim (j == i) as (λ b. (j == i) ≡ b → is_some (if b then granted_slot n (slot t i) else slot t j)
    ≡ is_some (slot t j)) [
      | true ↦ λ e. granted (slot t i) n ∙ sym some ∙ ap (λ (v : ℕ). is_some (slot t v)) (sym (number_same j i e))
      | false ↦ λ e. refl
    ] refl where
      granted : (o : Option Held) (n : Node) → is_some (granted_slot n o) ≡ true
      granted None n = refl
      granted (Some x) n = refl

pub along_held : (s t : Slots) (ns : List Node) (rs : List ℕ) (n : Node) (r behind : ℕ) → Along s t ns rs behind
    → length ns ≡ length rs → 0 < r → node_of (slot t (r - 1)) ≡ Some n
    → IsNumberFor t n r × Along s (with_grant t n r) (ns ++ n ∷ []) (rs ++ r ∷ []) behind
along_held s t ns rs n r behind a as_many some h =
    let is = number_here t n r some h in
    let put = grant_is t n r in
    let same = same_taken t (with_grant t n r) n (r - 1) put (has_some (slot t (r - 1)) n h) in (
      is,
      along_more s t (with_grant t n r) ns rs n r behind behind a as_many some is put
          (λ j lt. same j ∙ a.taken j lt) (λ j le f. same j ∙ a.free j le f),
    )

-- ---- a new one

taken_below : (s t : Slots) (ns : List Node) (rs : List ℕ) (i behind : ℕ) → Along s t ns rs behind
    → ((j : ℕ) → behind ≤ j → j < i → is_some (slot s j) ≡ true) → (j : ℕ) → j < i → is_some (slot t j) ≡ true
taken_below s t ns rs i behind a least j lt = elim (cases_lt j behind) [
  | inl less ↦ a.taken j less
  | inr more ↦ elim (slot s j) as (λ o. slot s j ≡ o → is_some o ≡ true → is_some (slot t j) ≡ true) [
    | None ↦ λ e f. absurd (true≢false (sym f))
    | Some x ↦ λ e f. has_some (slot t j) x.node (a.kept j x.node (ap (λ (o : Option Held). node_of o) e))
  ] refl (least j more lt)
]

number_new : (s t : Slots) (ns : List Node) (rs : List ℕ) (n : Node) (i behind : ℕ) → Along s t ns rs behind
    → IsAbsent s n → list_any (λ (k : Node). same_node k n) ns ≡ false → behind ≤ i → is_some (slot s i) ≡ false
    → ((j : ℕ) → behind ≤ j → j < i → is_some (slot s j) ≡ true) → IsNumberFor t n (i + 1)
number_new s t ns rs n i behind a absent apart le free least =
    let none = has_none (slot t i) (a.free i le free) in (
      i,
      refl,
      (λ m g. absurd (true≢false (sym (has_some (slot t i) m g) ∙ ap (λ (o : Option Held). is_some o) none))),
      (λ z. (
        (λ j g. absurd (true≢false (sym (a.only j n g absent) ∙ apart))),
        (z, taken_below s t ns rs i behind a least),
      )),
    )

pub along_new : (s t : Slots) (ns : List Node) (rs : List ℕ) (n : Node) (i behind : ℕ) → Along s t ns rs behind
    → length ns ≡ length rs → IsAbsent s n → list_any (λ (k : Node). same_node k n) ns ≡ false → behind ≤ i
    → is_some (slot s i) ≡ false → ((j : ℕ) → behind ≤ j → j < i → is_some (slot s j) ≡ true)
    → IsNumberFor t n (i + 1) × Along s (with_grant t n (i + 1)) (ns ++ n ∷ []) (rs ++ (i + 1) ∷ []) (i + 1)
along_new s t ns rs n i behind a as_many absent apart le free least =
    let is = number_new s t ns rs n i behind a absent apart le free least in
    let t' = with_grant t n (i + 1) in
    let put = grant_is t n (i + 1) in
    let place : (i + 1) - 1 ≡ i = omega arith in
    let below = taken_below s t ns rs i behind a least in (
      is,
      along_more s t t' ns rs n (i + 1) behind (i + 1) a as_many (omega arith) is put
          (λ j lt. elim (cases_eq j i) [
            | inl at ↦ has_some (slot t' j) n
                (ap (λ (o : Option Held). node_of o)
                (put j ∙ (let e : (j == (i + 1) - 1) ≡ true = grind (arith, nat_tests) in rw e refl)) ∙
                made t n (i + 1) is)
            | inr off ↦
                let e : (j == (i + 1) - 1) ≡ false = grind (arith, nat_tests) in
                ap (λ (o : Option Held). is_some o) (put j ∙ rw e refl) ∙ below j (omega (arith, lt, off))
          ])
          (λ j more f.
          let e : (j == (i + 1) - 1) ≡ false = grind (arith, nat_tests) in
          ap (λ (o : Option Held). is_some o) (put j ∙ rw e refl) ∙ a.free j (omega (arith, more, le)) f),
    )
