-- The number of objects that are held after a grant.
use Rattle.std.proofs.Common.{◌≡◌, ℕ, ◌+◌, ◌-◌, ◌≤◌, ◌<◌, Bool, true, false, ◌||◌, ◌&&◌, ◌==◌, List, [], ◌∷◌, refl}
use Rattle.std.proofs.Common.{ap, sym, ◌∙◌, subst, length, Option, Some, None, if◌then◌else◌, arith}
use Rattle.std.specs.Prelude.{filter, nat_lt, is_some, cond}
use Rattle.std.specs.List.{list_any}
use Rattle.std.proofs.lemmas.Bool.Decides.{nat_tests}
use Rattle.std.proofs.lemmas.Bool.{true≢false, or_parts}
use Rattle.std.proofs.lemmas.List.Sums.{sum_by-cons}
use Rattle.sm_values.specs.declared.number.Node.{Node}
use Rattle.sm_history.specs.Effects.{Effect, Effects, Gives, same_node}
use Rattle.sm_history.specs.Clients.{is_live}
use Rattle.sm_history.specs.Holdings.{is_held, held_nodes, given_nodes, with_node, node_given, number_given}
use Rattle.sm_history.specs.Holdings.{is_release_of}
use Rattle.sm_history.proofs.Balanced.{node_same}
use Rattle.std.proofs.lemmas.List.Elements.{filter_agree}
use Rattle.sm_history.specs.Sound.{IsBalanced, granted, released}

gives_case : (b live : Bool) (r g s g' s' : ℕ) →
    (let o : Option ℕ = if b then Some r else None in g' ≡ cond (is_some o) 1 0 + g) → s' ≡ s → s ≤ g
    → nat_lt 0 (if live then g' - s' else 0) ≡ (if b then live else nat_lt 0 (if live then g - s else 0))
gives_case true true r g s g' s' eg es le = let more : 0 < g' - s' = omega (arith, eg, es, le) in
    grind (arith, nat_tests)
gives_case true false r g s g' s' eg es le = refl
gives_case false live r g s g' s' eg es le = let e : g' ≡ g = omega (arith, eg) in rw (e, es) refl

pub held_gives : (d : Effects) (c : ℕ) (n : Node) (r k : ℕ) (m : Node) → IsBalanced d
    → is_held (Gives c n r ∷ d) k m ≡ (if (c == k) && same_node n m then is_live d k else is_held d k m)
held_gives d c n r k m bal =
    gives_case ((c == k) && same_node n m) (is_live d k) r (granted d k m) (released d k m)
    (granted (Gives c n r ∷ d) k m) (released (Gives c n r ∷ d) k m)
    (sum_by-cons (λ (y : Effect). cond (is_some (number_given k m y)) 1 0) (Gives c n r) d)
    (let s = sum_by-cons (λ (y : Effect). cond (is_release_of k m y) 1 0) (Gives c n r) d in omega (arith, s))
    (bal k m)

abbrev pub IsDistinct : List Node → Type 0
IsDistinct [] = Unit {0}
IsDistinct (x ∷ xs) = (list_any (same_node x) xs ≡ false) × IsDistinct xs

with_distinct : (o : Option Node) (ns : List Node) → IsDistinct ns → IsDistinct (with_node o ns)
with_distinct None ns h = h
with_distinct (Some n) ns h =
    elim (list_any (same_node n) ns) as (λ b. list_any (same_node n) ns ≡ b → IsDistinct (if b then ns else n ∷ ns))
    [ true ↦ λ e. h | false ↦ λ e. (e, h) ] refl

pub given_distinct : (d : Effects) (c : ℕ) → IsDistinct (given_nodes d c)
given_distinct [] c = tt
given_distinct (x ∷ d) c = with_distinct (node_given c x) (given_nodes d c) (given_distinct d c)

abbrev pub Adds1 : (Node → Bool) → (Node → Bool) → Node → Type 0
Adds1 p q n = (m : Node) → q m ≡ (if same_node n m then true else p m)

filter_apart : (p q : Node → Bool) (n : Node) → Adds1 p q n → (xs : List Node) → list_any (same_node n) xs ≡ false
    → filter q xs ≡ filter p xs
filter_apart p q n adds [] h = refl
filter_apart p q n adds (x ∷ xs) h =
    let other : same_node n x ≡ false = (or_parts (same_node n x) (list_any (same_node n) xs) h).0 in
    let e : q x ≡ p x = adds x ∙ rw other refl in
    rw (e, filter_apart p q n adds xs (or_parts (same_node n x) (list_any (same_node n) xs) h).1) refl

new_among : (p q : Node → Bool) (n : Node) → Adds1 p q n → p n ≡ false → (xs : List Node) → IsDistinct xs
    → list_any (same_node n) xs ≡ true → length (filter q xs) ≡ length (filter p xs) + 1
new_among p q n adds none [] dist h = cc
new_among p q n adds none (x ∷ xs) dist h =
    elim (same_node n x) as (λ b. same_node n x ≡ b → (b || list_any (same_node n) xs) ≡ true →
    length (filter q (x ∷ xs)) ≡ length (filter p (x ∷ xs)) + 1) [
      | true ↦ λ e h'.
          let same = node_same n x e in
          let qx : q x ≡ true = adds x ∙ rw e refl in
          let px : p x ≡ false = subst (λ (v : Node). p v ≡ false) same none in
          let rest = filter_apart p q n adds xs
          (subst (λ (v : Node). list_any (same_node v) xs ≡ false) (sym same) dist.0) in
          rw (qx, px, rest) (omega arith)
      | false ↦ λ e h'.
          let qp : q x ≡ p x = adds x ∙ rw e refl in
          let i = new_among p q n adds none xs dist.1 h' in
          rw qp (elim (p x) as (λ b. length (if b then x ∷ filter q xs else filter q xs)
          ≡ length (if b then x ∷ filter p xs else filter p xs) + 1) [ true ↦ omega (arith, i) | false ↦ i ])
    ] refl h

pub same_self : (n : Node) → same_node n n ≡ true
same_self n = let a : (n.owner.0 == n.owner.0) ≡ true = grind (arith, nat_tests) in
    let b : (n.object == n.object) ≡ true = grind (arith, nat_tests) in rw (a, b) refl

count_new : (p q : Node → Bool) (n : Node) → Adds1 p q n → p n ≡ false → (ns : List Node) → IsDistinct ns
    → length (filter q (with_node (Some n) ns)) ≡ length (filter p ns) + 1
count_new p q n adds none ns dist =
    elim (list_any (same_node n) ns) as (λ b. list_any (same_node n) ns ≡ b →
    length (filter q (if b then ns else n ∷ ns)) ≡ length (filter p ns) + 1) [
      | true ↦ λ e. new_among p q n adds none ns dist e
      | false ↦ λ e. let qn : q n ≡ true = adds n ∙ rw (same_self n) refl in
          rw (qn, filter_apart p q n adds ns e) (omega arith)
    ] refl

-- What was never given was never granted.
with_apart : (o : Option Node) (n : Node) (ns : List Node) → list_any (same_node n) (with_node o ns) ≡ false
    → list_any (same_node n) ns ≡ false
with_apart None n ns h = h
with_apart (Some m) n ns h =
    elim (list_any (same_node m) ns) as (λ b. list_any (same_node n) (if b then ns else m ∷ ns) ≡ false →
    list_any (same_node n) ns ≡ false) [
      | true ↦ λ e. e
      | false ↦ λ e. (or_parts (same_node n m) (list_any (same_node n) ns) e).1
    ] h

with_other : (m n : Node) (ns : List Node) → list_any (same_node n) (with_node (Some m) ns) ≡ false
    → same_node m n ≡ false
with_other m n ns h =
    elim (same_node m n) as (λ b. same_node m n ≡ b → b ≡ false) [
      | false ↦ λ e. refl
      | true ↦ λ e.
          let same = node_same m n e in
          let h' : list_any (same_node n) (with_node (Some n) ns) ≡ false =
          subst (λ (v : Node). list_any (same_node n) (with_node (Some v) ns) ≡ false) same h in
          elim (list_any (same_node n) ns) as (λ b. list_any (same_node n) ns ≡ b →
          list_any (same_node n) (if b then ns else n ∷ ns) ≡ false → true ≡ false) [
            | true ↦ λ a f. sym a ∙ f
            | false ↦ λ a f. sym (same_self n) ∙ (or_parts (same_node n n) (list_any (same_node n) ns) f).0
          ] refl h'
    ] refl

gives_none : (k c r : ℕ) (m n : Node) (ns : List Node)
    → list_any (same_node n) (with_node (if k == c then Some m else None) ns) ≡ false
    → ((k == c) && same_node m n) ≡ false
gives_none k c r m n ns h =
    elim (k == c) as (λ b. list_any (same_node n) (with_node (if b then Some m else None) ns) ≡ false →
    (b && same_node m n) ≡ false) [
      | true ↦ λ f. with_other m n ns f
      | false ↦ λ f. refl
    ] h

quiet : (x : Effect) (d : Effects) (c : ℕ) (n : Node) → is_some (number_given c n x) ≡ false → granted d c n ≡ 0
    → granted (x ∷ d) c n ≡ 0
quiet x d c n e z =
    let g = sum_by-cons (λ (y : Effect). cond (is_some (number_given c n y)) 1 0) x d in
    let b = ap (λ (t : Bool). let k : ℕ = cond t 1 0 in k) e in
    omega (arith, g, b, z)

never_granted : (d : Effects) (c : ℕ) (n : Node) → list_any (same_node n) (given_nodes d c) ≡ false → granted d c n ≡ 0
never_granted [] c n h = refl
never_granted (Gives k m r ∷ d) c n h =
    let ns = given_nodes d c in
    quiet (Gives k m r) d c n (rw (gives_none k c r m n ns h) refl)
    (never_granted d c n (with_apart (if k == c then Some m else None) n ns h))
never_granted (x ∷ d) c n h = quiet x d c n refl (never_granted d c n h)

held_some : (live : Bool) (g s : ℕ) → g ≡ 0 → nat_lt 0 (if live then g - s else 0) ≡ false
held_some true g s z = let e : g - s ≡ 0 = omega (arith, z) in rw e refl
held_some false g s z = refl

pub held_given : (d : Effects) (c : ℕ) (n : Node) → is_held d c n ≡ true
    → list_any (same_node n) (given_nodes d c) ≡ true
held_given d c n held =
    elim (list_any (same_node n) (given_nodes d c)) as (λ b. list_any (same_node n) (given_nodes d c) ≡ b → b ≡ true) [
      | true ↦ λ e. refl
      | false ↦ λ e. absurd (true≢false
          (sym held ∙ held_some (is_live d c) (granted d c n) (released d c n) (never_granted d c n e)))
    ] refl

pub stays : (d : Effects) (c : ℕ) (n : Node) → is_held d c n ≡ true → (m : Node)
    → (if same_node n m then true else is_held d c m) ≡ is_held d c m
stays d c n held m =
    elim (same_node n m) as (λ b. same_node n m ≡ b → (if b then true else is_held d c m) ≡ is_held d c m) [
      | true ↦ λ e. sym held ∙ ap (is_held d c) (node_same n m e)
      | false ↦ λ e. refl
    ] refl

-- A grant of an object that isn't held makes one more held.
pub count_gives : (d : Effects) (c : ℕ) (n : Node) (r : ℕ) → IsBalanced d → is_live d c ≡ true
    → length (held_nodes (Gives c n r ∷ d) c)
    ≡ (if is_held d c n then length (held_nodes d c) else length (held_nodes d c) + 1)
count_gives d c n r bal live =
    let ns = given_nodes d c in
    let q = is_held (Gives c n r ∷ d) c in
    let self : (c == c) ≡ true = grind (arith, nat_tests) in
    let adds : (m : Node) → q m ≡ (if same_node n m then true else is_held d c m) = λ m. held_gives d c n r c m bal ∙
    rw (self, live) refl in
    let given : given_nodes (Gives c n r ∷ d) c ≡ with_node (Some n) ns = rw self refl in
    ap (λ xs. length (filter q xs)) given
    ∙ elim (is_held d c n) as (λ b. is_held d c n ≡ b →
    length (filter q (with_node (Some n) ns))
    ≡ (if b then length (filter (is_held d c) ns) else length (filter (is_held d c) ns) + 1)) [
      | true ↦ λ e. rw (held_given d c n e)
          (ap (length {A = Node}) (filter_agree q (is_held d c) (λ m. adds m ∙ stays d c n e m) ns))
      | false ↦ λ e. count_new (is_held d c) q n adds e ns (given_distinct d c)
    ] refl
