-- What every effect leaves of inboxes that are open, and of handles, which are to others' objects.
use Rattle.std.proofs.Common.{◌≡◌, ℕ, ◌+◌, ◌≤◌, ◌<◌, Bool, true, false, not, ◌&&◌, ◌||◌, ◌==◌}
use Rattle.std.proofs.Common.{List, [], ◌∷◌, refl, ap, sym, ◌∙◌, length, if◌then◌else◌, arith}
use Rattle.std.specs.List.{list_any}
use Rattle.std.proofs.lemmas.Bool.{true≢false, and_parts}
use Rattle.std.proofs.lemmas.Bool.Decides.{nat_tests}
use Rattle.sm_values.specs.declared.number.Node.{Node}
use Rattle.sm_values.specs.declared.identity.Identity.{Identity}
use Rattle.sm_history.specs.Effects.{Effects, same_node}
use Rattle.sm_history.specs.declared.effect.Effect.{Effect}
use Rattle.sm_history.specs.declared.effect.Effect.TheVariants.{Connects, Dies, Gives}
use Rattle.sm_history.specs.Clients.{is_live, is_connect_of}
use Rattle.sm_history.specs.Holdings.{is_held}
use Rattle.sm_history.specs.Sound.{IsBalanced}
use Rattle.sm_history.proofs.AfterClients.{IsNew, live_connects, live_dies}
use Rattle.sm_history.proofs.Balanced.{node_same}
use Rattle.sm_history.proofs.Grants.{held_gives}
use Rattle.sm_core.specs.declared.state.State.{State}
use Rattle.sm_grants.specs.Rows.{spare_for}
use Rattle.sm_names.specs.declared.names.NameTable.{NameTable}
use Rattle.sm_names.specs.Tracking.{HasRoom as HasNameRoom}
use Rattle.sm_core.specs.Stands.{gives_to, is_connect, is_named, HasRoom}
use Rattle.sm_core.proofs.Numbers.{sets_first, connects_first}

pub number_same : (a b : ℕ) → (a == b) ≡ true → a ≡ b
number_same a b e = grind (arith, nat_tests)

abbrev pub AreOpen : Effects → (ℕ → Bool) → Type 0
AreOpen d has = (c : ℕ) → is_live d c ≡ true → has c ≡ true

pub open_connects : (d : Effects) (n : ℕ) (who : Identity) (has : ℕ → Bool) → IsNew d n → AreOpen d has → has n ≡ true
    → AreOpen (Connects n who ∷ d) has
open_connects d n who has new all one c live =
    elim (n == c) as (λ b. (n == c) ≡ b → (if b then true else is_live d c) ≡ true → has c ≡ true) [
      | true ↦ λ e l. ap has (sym (number_same n c e)) ∙ one
      | false ↦ λ e l. all c l
    ] refl (sym (live_connects d n who c new) ∙ live)

pub open_dies : (d : Effects) (n : ℕ) (has left : ℕ → Bool) → AreOpen d has
    → ((k : ℕ) → (n == k) ≡ false → left k ≡ has k) → AreOpen (Dies n ∷ d) left
open_dies d n has left all still c live =
    elim (n == c) as (λ b. (n == c) ≡ b → (is_live d c && not b) ≡ true → left c ≡ true) [
      | true ↦ λ e l. absurd (true≢false (sym (and_parts (is_live d c) false l).1))
      | false ↦ λ e l. still c e ∙ all c (and_parts (is_live d c) true l).0
    ] refl (sym (live_dies d n c) ∙ live)

abbrev pub AreForeign : Effects → Type 0
AreForeign d = (c : ℕ) (n : Node) → is_held d c n ≡ true → (n.owner.0 == c) ≡ false

given_apart : (c k : ℕ) (n m : Node) → ((c == k) && same_node n m) ≡ true → (n.owner.0 == c) ≡ false
    → (m.owner.0 == k) ≡ false
given_apart c k n m e apart =
    let parts = and_parts (c == k) (same_node n m) e in
    let node = ap (λ (v : Node). v.owner.0 == k) (sym (node_same n m parts.1)) in
    node ∙ ap (λ j. n.owner.0 == j) (sym (number_same c k parts.0)) ∙ apart

pub foreign_gives : (d : Effects) (c : ℕ) (n : Node) (r : ℕ) → IsBalanced d → (n.owner.0 == c) ≡ false → AreForeign d
    → AreForeign (Gives c n r ∷ d)
foreign_gives d c n r balanced apart all k m held =
    elim ((c == k) && same_node n m) as (λ b. ((c == k) && same_node n m) ≡ b →
    (if b then is_live d k else is_held d k m) ≡ true → (m.owner.0 == k) ≡ false) [
      | true ↦ λ e h. given_apart c k n m e apart
      | false ↦ λ e h. all k m h
    ] refl (sym (held_gives d c n r k m balanced) ∙ held)

-- ---- what is left of the room

pub later : (p : Effect → Bool) (x : Effect) (rest : List Effect) → list_any p rest ≡ true →
    list_any p (x ∷ rest) ≡ true
later p x rest e = elim (p x) as (λ b. (b || list_any p rest) ≡ true) [ true ↦ refl | false ↦ e ]

pub first_of : (p : Effect → Bool) (x : Effect) (rest : List Effect) → list_any p (x ∷ []) ≡ true →
    list_any p (x ∷ rest) ≡ true
first_of p x rest e =
    elim (p x) as (λ b. (b || false) ≡ true → (b || list_any p rest) ≡ true) [
      | true ↦ λ t. refl
      | false ↦ λ f. absurd (true≢false (sym f))
    ] e

pub none_left : (p : Effect → Bool) (rest : List Effect) → rest ≡ [] → list_any p rest ≡ true → ⊥
none_left p rest e any = true≢false (sym any ∙ ap (λ xs. list_any p xs) e)

abbrev Spares : List Effect → (ℕ → ℕ) → Type 0
Spares xs spare = (c : ℕ) → list_any (gives_to c) xs ≡ true → length xs ≤ spare c

pub spare_kept : (x : Effect) (rest : List Effect) (old new : ℕ → ℕ) → ((k : ℕ) → old k ≤ new k) → Spares (x ∷ rest) old
    → Spares rest new
spare_kept x rest old new more room c any =
    let a = room c (later (gives_to c) x rest any) in
    let b = more c in
    omega (arith, a, b)

pub spare_given : (x : Effect) (rest : List Effect) (n : ℕ) (old new : ℕ → ℕ) → old n ≤ new n + 1
    → ((k : ℕ) → (n == k) ≡ false → new k ≡ old k) → Spares (x ∷ rest) old → Spares rest new
spare_given x rest n old new one others room c any =
    let a = room c (later (gives_to c) x rest any) in
    elim (n == c) as (λ b. (n == c) ≡ b → length rest ≤ new c) [
      | true ↦ λ e. let o = ap old (sym (number_same n c e)) in let m = ap new (sym (number_same n c e)) in
          omega (arith, a, one, o, m)
      | false ↦ λ e. let o = others c e in omega (arith, a, o)
    ] refl

pub connect_open : (n : ℕ) (who : Identity) (has : Bool) →
    (list_any (is_connect_of n) (Connects n who ∷ []) ≡ true → has ≡ true)
    → has ≡ true
connect_open n who has room = let e : (n == n) ≡ true = grind (arith, nat_tests) in room (ap (λ b. b || false) e)

pub gives_spare : (c : ℕ) (n : Node) (r spare : ℕ)
    → (list_any (gives_to c) (Gives c n r ∷ []) ≡ true →
    length (let xs : List Effect = Gives c n r ∷ [] in xs) ≤ spare) → 0 < spare
gives_spare c n r spare room =
    let e : (c == c) ≡ true = grind (arith, nat_tests) in
    let le = room (ap (λ b. b || false) e) in
    omega (arith, le)

pub fewer_names : (n m : ℕ) (t : NameTable) → m ≤ n → HasNameRoom n t → HasNameRoom m t
fewer_names n m t le r = record {
  services = let a = r.services in omega (arith, a, le);
  watches = let a = r.watches in omega (arith, a, le);
  order = let a = r.order in omega (arith, a, le);
}

pub room_one : (x : Effect) (rest : List Effect) (s : State) → HasRoom (x ∷ rest) s → HasRoom (x ∷ []) s
room_one x rest s r =
    record {
      clients = λ any. let a = r.clients (first_of is_connect x rest any) in omega (arith, a);
      names = λ any. fewer_names (length (x ∷ rest)) 1 s.names (omega arith)
          (r.names (first_of is_named x rest any));
      version = let a = r.version in let b = sets_first x rest in omega (arith, a, b);
      next = let a = r.next in let b = connects_first x rest in omega (arith, a, b);
      handles = λ c any. let a = r.handles c (first_of (gives_to c) x rest any) in omega (arith, a);
      inboxes = λ c any. r.inboxes c (first_of (is_connect_of c) x rest any);
    }

-- Room for one effect less, where only names changed.
pub room_left : (x : Effect) (rest : List Effect) (s : State) (t : NameTable)
    → (HasNameRoom (length rest + 1) s.names → HasNameRoom (length rest) t) → HasRoom (x ∷ rest) s
    → HasRoom rest (record s { names = t })
room_left x rest s t left r = record {
  clients = λ any. let a = r.clients (later is_connect x rest any) in omega (arith, a);
  names = λ any. left (fewer_names (length (x ∷ rest)) (length rest + 1) s.names (omega arith)
      (r.names (later is_named x rest any)));
  version = let a = r.version in let b = sets_first x rest in omega (arith, a, b);
  next = let a = r.next in let b = connects_first x rest in omega (arith, a, b);
  handles = spare_kept x rest (spare_for s.grants) (spare_for s.grants) (λ k. omega arith) r.handles;
  inboxes = λ c any. r.inboxes c (later (is_connect_of c) x rest any);
}
