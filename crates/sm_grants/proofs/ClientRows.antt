-- The rows of clients, and what effects make of them.
use Rattle.std.proofs.Common.{◌≡◌, ℕ, zero, suc, ◌+◌, ◌-◌, ◌<◌, Bool, true, false, ◌&&◌, ◌||◌, ◌==◌, List, [], ◌∷◌}
use Rattle.std.proofs.Common.{refl, ap, sym, ◌∙◌, subst, length, map, set, Option, Some, None, if◌then◌else◌}
use Rattle.std.proofs.Common.{arith, get_or}
use Rattle.std.specs.Prelude.{not, ◌≤◌}
use Rattle.std.specs.List.{insert, list_any, remove}
use Rattle.std.proofs.lemmas.Bool.{true≢false, or_from, or_parts}
use Rattle.std.proofs.lemmas.Bool.Decides.{nat_tests}
use Rattle.sm_values.specs.declared.number.Node.{Node}
use Rattle.sm_history.specs.Effects.{Effects, same_node}
use Rattle.sm_history.specs.declared.effect.Effect.TheVariants.{Gives, Releases, Dies}
use Rattle.sm_history.specs.Clients.{is_live, live_clients}
use Rattle.sm_history.specs.Holdings.{refs_at, number_at, node_at, number_for}
use Rattle.sm_history.specs.Sound.{IsBalanced, IsOnce}
use Rattle.sm_history.proofs.Balanced.{balanced_lasts, step, release, number_same}
use Rattle.sm_history.proofs.AfterHoldings.{refs_gives, refs_releases, refs_dies, number_gives}
use Rattle.sm_history.proofs.AfterClients.{list_dies}
use Rattle.sm_history.proofs.Sound.{once_filter}
use Rattle.sm_history.specs.declared.held.Held.{Held}
use Rattle.sm_grants.specs.declared.rows.ClientHandles.{ClientHandles}
use Rattle.sm_history.specs.Tables.{Slots, slot, IsPut, released_slot}
use Rattle.sm_grants.specs.Slots.{node_of, granted_slot, IsGranted, IsNumberFor, HandleTable}
use Rattle.sm_grants.specs.Tracking.{TracksSlots}
use Rattle.sm_grants.specs.Rows.{table_of, slots_in, slots_of, spare_in, spare_of, TracksRows, CanGrantRow}
use Rattle.sm_grants.proofs.Tracked.{not_held, tracked_gives, tracked_releases, tracked_same, tracked_none}
use Rattle.sm_grants.proofs.Tracked.{node_is_slot, node_zero, free_is}
use Rattle.sm_grants.proofs.Small.{lt_test, zero_test}
use Rattle.sm_history.proofs.ClientRows.{self_same}

-- ---- rows

-- This is the index of a client's first row, counted from a.
abbrev pub index_from : ℕ → List ClientHandles → ℕ → Option ℕ
index_from a [] c = None
index_from a (r ∷ rs) c = if r.client == c then Some a else index_from (a + 1) rs c

-- This is the content of a client's row.
pub record AtRow (rows : List ClientHandles) (c i : ℕ) : Type 0 where
  pub inside : i < length rows
  pub here : (d : ClientHandles) → (table_of rows c ≡ Some (get_or rows i d).handles) × ((get_or rows i d).client ≡ c)
  pub tables : (r : ClientHandles) (k : ℕ) → r.client ≡ c
      → table_of (set rows i r) k ≡ (if c == k then Some r.handles else table_of rows k)
  pub clients : (r : ClientHandles) → r.client ≡ c
      → map (λ (x : ClientHandles). x.client) (set rows i r) ≡ map (λ (x : ClientHandles). x.client) rows

row_at : (a : ℕ) (rows : List ClientHandles) (c j : ℕ) → index_from a rows c ≡ Some j
    → (i : ℕ) × (j ≡ a + i) × AtRow rows c i
row_at a [] c j h = cc
row_at a (r ∷ rs) c j h =
    elim (r.client == c) as (λ b. (r.client == c) ≡ b →
    (let o : Option ℕ = if b then Some a else index_from (a + 1) rs c in o ≡ Some j) →
    (i : ℕ) × (j ≡ a + i) × AtRow (r ∷ rs) c i) [
      | true ↦ λ e f.
          let at : a ≡ j = cc in
          let same = number_same r.client c e in (
            0,
            omega (arith, at),
            record {
              inside = omega arith;
              here = λ d. (rw e refl, same);
              tables = λ x k is.
                  let one : (x.client == k) ≡ (c == k) = ap (λ (v : ℕ). v == k) is in
                  let two : (r.client == k) ≡ (c == k) = ap (λ (v : ℕ). v == k) same in
                  rw (one, two) (elim (c == k) as (λ b. (let o : Option HandleTable =
                  if b then Some x.handles else table_of rs k in o)
                  ≡ (if b then Some x.handles else (if b then Some r.handles else table_of rs k)))
                  [ true ↦ refl | false ↦ refl ]);
              clients = λ x is. ap (λ (v : ℕ). v ∷ map (λ (y : ClientHandles). y.client) rs) (is ∙ sym same);
            },
          )
      | false ↦ λ e f.
          let w = row_at (a + 1) rs c j f in
          let at = w.1 in (
            suc w.0,
            omega (arith, at),
            record {
              inside = let lt = w.2.inside in omega (arith, lt);
              here = λ d. let v = w.2.here d in (rw e v.0, v.1);
              tables = λ x k is.
                  let i = w.2.tables x k is in
                  elim (r.client == k) as (λ b. (r.client == k) ≡ b →
                  (let o : Option HandleTable = if b then Some r.handles else table_of (set rs w.0 x) k in o)
                  ≡ (if c == k then Some x.handles else (if b then Some r.handles else table_of rs k))) [
                    | true ↦ λ g.
                        let own = number_same r.client k g in
                        let apart : (c == k) ≡ false = grind (arith, nat_tests) in
                        rw apart refl
                    | false ↦ λ g. i
                  ] refl;
              clients = λ x is. ap (λ (v : List ℕ). r.client ∷ v) (w.2.clients x is);
            },
          )
    ] refl h

pub at_row : (rows : List ClientHandles) (c i : ℕ) → index_from 0 rows c ≡ Some i → AtRow rows c i
at_row rows c i h = let w = row_at 0 rows c i h in let e = w.1 in
    subst (λ (v : ℕ). AtRow rows c v) (let f : w.0 ≡ i = omega (arith, e) in f) w.2

-- ---- effects

-- Only a client's own handles changed.
pub record IsChanged (rows rows' : List ClientHandles) (c : ℕ) (t : HandleTable) : Type 0 where
  pub tables : (k : ℕ) → table_of rows' k ≡ (if c == k then Some t else table_of rows k)
  pub clients : map (λ (x : ClientHandles). x.client) rows' ≡ map (λ (x : ClientHandles). x.client) rows

pub changed_own : (rows rows' : List ClientHandles) (c : ℕ) (t : HandleTable) → IsChanged rows rows' c t
    → table_of rows' c ≡ Some t
changed_own rows rows' c t ch = ch.tables c ∙ rw (self_same c) refl

pub changed_other : (rows rows' : List ClientHandles) (c k : ℕ) (t : HandleTable) → IsChanged rows rows' c t
    → (c == k) ≡ false → table_of rows' k ≡ table_of rows k
changed_other rows rows' c k t ch e = ch.tables k ∙ rw e refl

-- A fact of all clients, from that of one and those of the others.
for_all : (P : ℕ → Slots → Type 0) (rows rows' : List ClientHandles) (c : ℕ) (t : HandleTable)
    → IsChanged rows rows' c t → P c t.slots → ((k : ℕ) → (c == k) ≡ false → P k (slots_of rows k)) → (k : ℕ)
    → P k (slots_of rows' k)
for_all P rows rows' c t ch own other k =
    elim (c == k) as (λ b. (c == k) ≡ b → P k (slots_of rows' k)) [
      | true ↦ λ e. rw (← number_same c k e, changed_own rows rows' c t ch) own
      | false ↦ λ e. rw (changed_other rows rows' c k t ch e) (other k e)
    ] refl

pub number_is : (d : Effects) (c : ℕ) (s : Slots) (n : Node) (r : ℕ) → TracksSlots d c s → IsNumberFor s n r
    → r ≡ number_for d c n
number_is d c s n r t is =
    let i = is.0 in
    elim (slot s i) as (λ o. slot s i ≡ o → r ≡ number_for d c n) [
      | None ↦ λ e.
          let w = is.3 e in
          let none = not_held (refs_at d c) (number_at d c) s n t w.0 in
          is.1 ∙ sym (free_is d c s i t w.1) ∙ rw (zero_test (refs_at d c n) none) refl
      | Some h ↦ λ e.
          let w = t.held i h e in
          let own : h.node ≡ n = is.2 h.node (ap (λ (o : Option Held). node_of o) e) in
          let count : refs_at d c n ≡ h.count = subst (λ (v : Node). refs_at d c v ≡ h.count) own w.0 in
          let num : number_at d c n ≡ i + 1 = subst (λ (v : Node). number_at d c v ≡ i + 1) own w.2 in
          let some = w.1 in
          let more : 0 < refs_at d c n = omega (arith, count, some) in
          is.1 ∙ sym num ∙ rw (lt_test (refs_at d c n) more) refl
    ] refl

own_case : (t b l : Bool) (a : ℕ) → t ≡ true → l ≡ true
    → (if (t && b) && l then a + 1 else a) ≡ (if b then a + 1 else a)
own_case true true true a p q = refl
own_case true false true a p q = refl
own_case true b false a p q = absurd (true≢false (sym q))
own_case false b l a p q = absurd (true≢false (sym p))

own_refs : (d : Effects) (c : ℕ) (n : Node) (r : ℕ) (m : Node) → IsBalanced d → is_live d c ≡ true
    → refs_at (Gives c n r ∷ d) c m ≡ (if same_node n m then refs_at d c m + 1 else refs_at d c m)
own_refs d c n r m bal live = refs_gives d c n r c m bal ∙
    own_case (c == c) (same_node n m) (is_live d c) (refs_at d c m) (self_same c) live

-- A client's slots after one grant.
pub slots_gives : (d : Effects) (c : ℕ) (s t : Slots) (n : Node) (r : ℕ) → IsBalanced d → is_live d c ≡ true
    → TracksSlots d c s → IsNumberFor s n r → IsPut s t (r - 1) (granted_slot n (slot s (r - 1)))
    → TracksSlots (Gives c n r ∷ d) c t
slots_gives d c s t n r bal live own is put =
    let i = is.0 in
    let r_is = is.1 in
    let place : r - 1 ≡ i = omega (arith, r_is) in
    let put' : IsPut s t i (granted_slot n (slot s i)) = rw (← place) put in
    tracked_gives (refs_at d c) (number_at d c) (refs_at (Gives c n r ∷ d) c) (number_at (Gives c n r ∷ d) c) s t n i
    own is.2 (λ e. (is.3 e).0) put'
    (λ m. own_refs d c n r m bal live)
    (λ m. number_gives d c n r c m ∙ rw (self_same c, r_is) refl)

pub tracks_gives : (d : Effects) (rows rows' : List ClientHandles) (c : ℕ) (t : HandleTable) (n : Node) (r : ℕ)
    → IsChanged rows rows' c t → IsGranted (slots_of rows c) t.slots n r → TracksRows d rows → is_live d c ≡ true
    → (r ≡ number_for d c n) × TracksRows (Gives c n r ∷ d) rows'
tracks_gives d rows rows' c t n r ch g tr live = (
  number_is d c (slots_of rows c) n r (tr.slots c) g.0,
  record {
    balanced = balanced_lasts (Gives c n r) d refl tr.balanced;
    live = tr.live;
    slots = for_all (λ k s. TracksSlots (Gives c n r ∷ d) k s) rows rows' c t ch
        (slots_gives d c (slots_of rows c) t.slots n r tr.balanced live (tr.slots c) g.0 g.1)
        (λ k e. tracked_same (refs_at d k) (number_at d k) (refs_at (Gives c n r ∷ d) k)
        (number_at (Gives c n r ∷ d) k) (slots_of rows k)
        (λ m. refs_gives d c n r k m tr.balanced ∙ rw e refl) (λ m. number_gives d c n r k m ∙ rw e refl) (tr.slots k));
    once = subst IsOnce (sym ch.clients) tr.once;
  },
)

pub tracks_releases : (d : Effects) (rows rows' : List ClientHandles) (c : ℕ) (t : HandleTable) (x : Held) (i : ℕ)
    → IsChanged rows rows' c t → slot (slots_of rows c) i ≡ Some x
    → IsPut (slots_of rows c) t.slots i (released_slot (slot (slots_of rows c) i)) → TracksRows d rows
    → TracksRows (Releases c x.node ∷ d) rows'
tracks_releases d rows rows' c t x i ch at put tr =
    let s = slots_of rows c in
    let d' = Releases c x.node ∷ d in
    let w = (tr.slots c).held i x at in
    let count = w.0 in let some = w.1 in
    let more : 0 < refs_at d c x.node = omega (arith, count, some) in
    let put' : IsPut s t.slots i (released_slot (Some x)) =
    subst (λ (o : Option Held). IsPut s t.slots i (released_slot o)) at put in
    record {
      balanced = release d c x.node (lt_test (refs_at d c x.node) more) tr.balanced;
      live = tr.live;
      slots = for_all (λ k s. TracksSlots d' k s) rows rows' c t ch
          (tracked_releases (refs_at d c) (number_at d c) (refs_at d' c) (number_at d' c) s t.slots x i (tr.slots c)
          at put'
          (λ m. refs_releases d c x.node c m ∙ rw (self_same c) refl) (λ m. refl))
          (λ k e. tracked_same (refs_at d k) (number_at d k) (refs_at d' k) (number_at d' k) (slots_of rows k)
          (λ m. refs_releases d c x.node k m ∙ rw e refl) (λ m. refl) (tr.slots k));
      once = subst IsOnce (sym ch.clients) tr.once;
    }

-- Only the room for more changed.
pub tracks_room : (d : Effects) (rows rows' : List ClientHandles) (c : ℕ) (t : HandleTable) → IsChanged rows rows' c t
    → t.slots ≡ slots_of rows c → TracksRows d rows → TracksRows d rows'
tracks_room d rows rows' c t ch same tr = record {
  balanced = tr.balanced;
  live = tr.live;
  slots = for_all (λ k s. TracksSlots d k s) rows rows' c t ch
      (subst (λ (v : Slots). TracksSlots d c v) (sym same) (tr.slots c)) (λ k e. tr.slots k);
  once = subst IsOnce (sym ch.clients) tr.once;
}

-- No client's room got less.
pub spare_kept : (rows rows' : List ClientHandles) (c : ℕ) (t : HandleTable) → IsChanged rows rows' c t
    → spare_of rows c ≤ t.spare → (k : ℕ) → spare_of rows k ≤ spare_of rows' k
spare_kept rows rows' c t ch le k =
    elim (c == k) as (λ b. (c == k) ≡ b → spare_of rows k ≤ spare_of rows' k) [
      | true ↦ λ e. rw (← number_same c k e, changed_own rows rows' c t ch) le
      | false ↦ λ e. let same = ap (λ (o : Option HandleTable). spare_in o) (changed_other rows rows' c k t ch e) in
          omega (arith, same)
    ] refl

-- A row changed.
pub row_set : (rows : List ClientHandles) (c i : ℕ) (r : ClientHandles) → index_from 0 rows c ≡ Some i → r.client ≡ c
    → IsChanged rows (set rows i r) c r.handles
row_set rows c i r h is = let w = at_row rows c i h in
    record { tables = λ k. w.tables r k is; clients = w.clients r is }

-- ---- look-ups

pub node_found : (d : Effects) (rows : List ClientHandles) (c : ℕ) (t : HandleTable) (number : ℕ) (o : Option Held)
    → TracksRows d rows → table_of rows c ≡ Some t → 0 < number → o ≡ slot t.slots (number - 1)
    → node_of o ≡ node_at d c number
node_found d rows c t number o tr at some is =
    let own : TracksSlots d c t.slots = subst (λ (v : Option HandleTable). TracksSlots d c (slots_in v)) at
    (tr.slots c) in
    let e : (number - 1) + 1 ≡ number = omega (arith, some) in
    ap (λ (v : Option Held). node_of v) is ∙ sym (node_is_slot d c t.slots (number - 1) own) ∙
    ap (λ (v : ℕ). node_at d c v) e

pub node_none : (d : Effects) (rows : List ClientHandles) (c number : ℕ) → TracksRows d rows → table_of rows c ≡ None
    → 0 < number → node_at d c number ≡ None
node_none d rows c number tr at some =
    let own : TracksSlots d c [] = subst (λ (v : Option HandleTable). TracksSlots d c (slots_in v)) at (tr.slots c) in
    let e : (number - 1) + 1 ≡ number = omega (arith, some) in
    sym (ap (λ (v : ℕ). node_at d c v) e) ∙ node_is_slot d c [] (number - 1) own

pub node_no_number : (d : Effects) (rows : List ClientHandles) (c : ℕ) → TracksRows d rows → node_at d c 0 ≡ None
node_no_number d rows c tr = node_zero d c (slots_of rows c) (tr.slots c)

pub number_found : (d : Effects) (rows : List ClientHandles) (c : ℕ) (t : HandleTable) (n : Node) (r : ℕ)
    → TracksRows d rows → table_of rows c ≡ Some t → IsNumberFor t.slots n r → r ≡ number_for d c n
number_found d rows c t n r tr at is = number_is d c t.slots n r
    (subst (λ (v : Option HandleTable). TracksSlots d c (slots_in v)) at (tr.slots c)) is

pub number_none : (d : Effects) (rows : List ClientHandles) (c : ℕ) (n : Node) → TracksRows d rows
    → table_of rows c ≡ None → 1 ≡ number_for d c n
number_none d rows c n tr at =
    number_is d c [] n 1 (subst (λ (v : Option HandleTable). TracksSlots d c (slots_in v)) at (tr.slots c))
    (0, refl, (λ m h. cc), (λ e. ((λ i h. cc), (refl, (λ j lt. absurd (omega (arith, lt)))))))

pub cannot : (rows : List ClientHandles) (c : ℕ) (n : Node) → CanGrantRow rows c n → table_of rows c ≡ None → ⊥
cannot rows c n can none =
    let w = (rw none at can.placed) (λ i h. cc) in let lt = w.1 in omega (arith, lt)

-- ---- a new row

table_more : (rows : List ClientHandles) (i : ℕ) (r : ClientHandles) (k : ℕ) → table_of rows r.client ≡ None
    → table_of (insert rows i r) k ≡ (if r.client == k then Some r.handles else table_of rows k)
table_more [] zero r k none = refl
table_more [] (suc i) r k none = refl
table_more (x ∷ rows) zero r k none = refl
table_more (x ∷ rows) (suc i) r k none =
    elim (x.client == r.client) as (λ b. (x.client == r.client) ≡ b →
    (let o : Option HandleTable = if b then Some x.handles else table_of rows r.client in o ≡ None)
    → (let o : Option HandleTable = if x.client == k then Some x.handles else table_of (insert rows i r) k in o)
    ≡ (if r.client == k then Some r.handles else (if x.client == k then Some x.handles else table_of rows k))) [
      | true ↦ λ e f. cc
      | false ↦ λ e f.
          let more = table_more rows i r k f in
          elim (x.client == k) as (λ b. (x.client == k) ≡ b →
          (let o : Option HandleTable = if b then Some x.handles else table_of (insert rows i r) k in o)
          ≡ (if r.client == k then Some r.handles else (if b then Some x.handles else table_of rows k))) [
            | true ↦ λ g. let own = number_same x.client k g in let apart : (r.client == k) ≡ false =
                grind (arith, nat_tests) in rw apart refl
            | false ↦ λ g. more
          ] refl
    ] refl none

pub not_among : (rows : List ClientHandles) (c : ℕ) → table_of rows c ≡ None
    → list_any (λ (y : ℕ). y == c) (map (λ (x : ClientHandles). x.client) rows) ≡ false
not_among [] c h = refl
not_among (r ∷ rows) c h =
    elim (r.client == c) as (λ b. (let o : Option HandleTable = if b then Some r.handles else table_of rows c in
    o ≡ None) → (b || list_any (λ (y : ℕ). y == c) (map (λ (x : ClientHandles). x.client) rows)) ≡ false) [
      | true ↦ λ f. cc
      | false ↦ λ f. not_among rows c f
    ] h

among_inserted : (rows : List ClientHandles) (i k : ℕ) (r : ClientHandles)
    → list_any (λ (y : ℕ). y == k) (map (λ (x : ClientHandles). x.client) rows) ≡ false → (r.client == k) ≡ false
    → list_any (λ (y : ℕ). y == k) (map (λ (x : ClientHandles). x.client) (insert rows i r)) ≡ false
among_inserted [] zero k r none f = rw f refl
among_inserted [] (suc i) k r none f = rw f refl
among_inserted (x ∷ xs) zero k r none f = rw f none
among_inserted (x ∷ xs) (suc i) k r none f =
    let p = or_parts (x.client == k) (list_any (λ (y : ℕ). y == k) (map (λ (x : ClientHandles). x.client) xs)) none in
    or_from (x.client == k) (list_any (λ (y : ℕ). y == k) (map (λ (x : ClientHandles). x.client) (insert xs i r))) p.0
    (among_inserted xs i k r p.1 f)

pub once_inserted : (rows : List ClientHandles) (i : ℕ) (r : ClientHandles)
    → list_any (λ (y : ℕ). y == r.client) (map (λ (x : ClientHandles). x.client) rows) ≡ false
    → IsOnce (map (λ (x : ClientHandles). x.client) rows)
    → IsOnce (map (λ (x : ClientHandles). x.client) (insert rows i r))
once_inserted [] zero r none once = (refl, tt)
once_inserted [] (suc i) r none once = (refl, tt)
once_inserted (x ∷ xs) zero r none once = (none, once)
once_inserted (x ∷ xs) (suc i) r none once =
    let p = or_parts (x.client == r.client)
    (list_any (λ (y : ℕ). y == r.client) (map (λ (x : ClientHandles). x.client) xs)) none in
    let f = p.0 in
    (among_inserted xs i x.client r once.0 (grind (arith, nat_tests)), once_inserted xs i r p.1 once.1)

pub tracks_pushed : (d : Effects) (rows : List ClientHandles) (i : ℕ) (r : ClientHandles)
    → table_of rows r.client ≡ None
    → r.handles.slots ≡ [] → TracksRows d rows → TracksRows d (insert rows i r)
tracks_pushed d rows i r none empty tr = record {
  balanced = tr.balanced;
  live = tr.live;
  slots = λ k.
      let old = tr.slots k in
      rw (table_more rows i r k none) (elim (r.client == k) as (λ b. (r.client == k) ≡ b →
      TracksSlots d k (slots_in (let o : Option HandleTable = if b then Some r.handles else table_of rows k in
      o))) [
        | true ↦ λ e.
            let none' : table_of rows k ≡ None = rw (← number_same r.client k e) none in
            rw empty (rw none' at old)
        | false ↦ λ e. old
      ] refl);
  once = once_inserted rows i r (not_among rows r.client none) tr.once;
}

pub spare_pushed : (rows : List ClientHandles) (i : ℕ) (r : ClientHandles) → table_of rows r.client ≡ None
    → spare_of (insert rows i r) r.client ≡ r.handles.spare
spare_pushed rows i r none =
    let at : table_of (insert rows i r) r.client ≡ Some r.handles = table_more rows i r r.client none ∙
    rw (self_same r.client) refl in
    ap (λ (o : Option HandleTable). spare_in o) at

pub spare_more : (rows : List ClientHandles) (i : ℕ) (r : ClientHandles) → table_of rows r.client ≡ None
    → (k : ℕ) → spare_of rows k ≤ spare_of (insert rows i r) k
spare_more rows i r none k =
    rw (table_more rows i r k none) (elim (r.client == k) as (λ b. (r.client == k) ≡ b →
    spare_of rows k ≤ spare_in (let o : Option HandleTable = if b then Some r.handles else table_of rows k in o)) [
      | true ↦ λ e.
          let none' : table_of rows k ≡ None = rw (← number_same r.client k e) none in
          let zero : spare_of rows k ≡ 0 = ap (λ (o : Option HandleTable). spare_in o) none' in
          omega (arith, zero)
      | false ↦ λ e. omega arith
    ] refl)

-- ---- a death

-- A client's row is gone.
pub record IsRemoved (rows rows' : List ClientHandles) (c : ℕ) : Type 0 where
  pub tables : (k : ℕ) → table_of rows' k ≡ (let o : Option HandleTable = if c == k then None else table_of rows k in o)
  pub once : IsOnce (map (λ (x : ClientHandles). x.client) rows')

pub none_removed : (rows : List ClientHandles) (c : ℕ) → table_of rows c ≡ None
    → IsOnce (map (λ (x : ClientHandles). x.client) rows) → IsRemoved rows rows c
none_removed rows c h once = record {
  tables = λ k. elim (c == k) as (λ b. (c == k) ≡ b →
      table_of rows k ≡ (let o : Option HandleTable = if b then None else table_of rows k in o)) [
        | true ↦ λ e. subst (λ (v : ℕ). table_of rows v ≡ None) (number_same c k e) h
        | false ↦ λ e. refl
      ] refl;
  once = once;
}

pub none_table : (rows : List ClientHandles) (c : ℕ)
    → list_any (λ (y : ℕ). y == c) (map (λ (x : ClientHandles). x.client) rows) ≡ false → table_of rows c ≡ None
none_table [] c h = refl
none_table (r ∷ rs) c h =
    elim (r.client == c) as (λ b. (b || list_any (λ (y : ℕ). y == c) (map (λ (x : ClientHandles). x.client) rs))
    ≡ false → (let o : Option HandleTable = if b then Some r.handles else table_of rs c in o ≡ None)) [
      | true ↦ λ f. absurd (true≢false f)
      | false ↦ λ f. none_table rs c f
    ] h

pub fewer_among : (rows : List ClientHandles) (i x : ℕ)
    → list_any (λ (y : ℕ). y == x) (map (λ (r : ClientHandles). r.client) rows) ≡ false
    → list_any (λ (y : ℕ). y == x) (map (λ (r : ClientHandles). r.client) (remove rows i)) ≡ false
fewer_among [] zero x h = refl
fewer_among [] (suc i) x h = refl
fewer_among (r ∷ rows) zero x h =
    (or_parts (r.client == x) (list_any (λ (y : ℕ). y == x) (map (λ (r : ClientHandles). r.client) rows)) h).1
fewer_among (r ∷ rows) (suc i) x h =
    or_from (r.client == x) (list_any (λ (y : ℕ). y == x) (map (λ (r : ClientHandles). r.client) (remove rows i)))
    (or_parts (r.client == x) (list_any (λ (y : ℕ). y == x) (map (λ (r : ClientHandles). r.client) rows)) h).0
    (fewer_among rows i x (or_parts (r.client == x)
    (list_any (λ (y : ℕ). y == x) (map (λ (r : ClientHandles). r.client) rows)) h).1)

removed_at : (a : ℕ) (rows : List ClientHandles) (c j : ℕ) → index_from a rows c ≡ Some j
    → IsOnce (map (λ (x : ClientHandles). x.client) rows) → (i : ℕ) × (j ≡ a + i) × IsRemoved rows (remove rows i) c
removed_at a [] c j h once = cc
removed_at a (r ∷ rows) c j h once =
    elim (r.client == c) as (λ b. (r.client == c) ≡ b →
    (let o : Option ℕ = if b then Some a else index_from (a + 1) rows c in o ≡ Some j) →
    (i : ℕ) × (j ≡ a + i) × IsRemoved (r ∷ rows) (remove (r ∷ rows) i) c) [
      | true ↦ λ e f.
          let at : a ≡ j = cc in
          let same = number_same r.client c e in (
            0,
            omega (arith, at),
            record {
              tables = λ k. elim (c == k) as (λ b. (c == k) ≡ b →
                  table_of rows k ≡ (let o : Option HandleTable = if b then None
                  else (if r.client == k then Some r.handles else table_of rows k) in o)) [
                    | true ↦ λ g. none_table rows k
                        (subst (λ (v : ℕ). list_any (λ (y : ℕ). y == v) (map (λ (x : ClientHandles). x.client) rows)
                        ≡ false) (same ∙ number_same c k g) once.0)
                    | false ↦ λ g. let apart : (r.client == k) ≡ false = ap (λ (v : ℕ). v == k) same ∙ g in
                        rw apart refl
                  ] refl;
              once = once.1;
            },
          )
      | false ↦ λ e f.
          let w = removed_at (a + 1) rows c j f once.1 in
          let at = w.1 in (
            suc w.0,
            omega (arith, at),
            record {
              tables = λ k.
                  let i = w.2.tables k in
                  elim (r.client == k) as (λ b. (r.client == k) ≡ b →
                  (let o : Option HandleTable = if b then Some r.handles else table_of (remove rows w.0) k in o)
                  ≡ (let o : Option HandleTable = if c == k then None
                  else (if b then Some r.handles else table_of rows k) in o)) [
                    | true ↦ λ g. let own = number_same r.client k g in let apart : (c == k) ≡ false =
                        grind (arith, nat_tests) in rw apart refl
                    | false ↦ λ g. i
                  ] refl;
              once = (fewer_among rows w.0 r.client once.0, w.2.once);
            },
          )
    ] refl h

pub row_removed : (rows : List ClientHandles) (c i : ℕ) → index_from 0 rows c ≡ Some i
    → IsOnce (map (λ (x : ClientHandles). x.client) rows) → IsRemoved rows (remove rows i) c
row_removed rows c i h once = let w = removed_at 0 rows c i h once in let e = w.1 in
    subst (λ (v : ℕ). IsRemoved rows (remove rows v) c) (let f : w.0 ≡ i = omega (arith, e) in f) w.2

others_at : (a : ℕ) (rows : List ClientHandles) (c k j : ℕ) → index_from a rows c ≡ Some j → (c == k) ≡ false
    → (i : ℕ) × (j ≡ a + i) × (table_of (remove rows i) k ≡ table_of rows k)
others_at a [] c k j h e = cc
others_at a (r ∷ rows) c k j h e =
    elim (r.client == c) as (λ b. (r.client == c) ≡ b →
    (let o : Option ℕ = if b then Some a else index_from (a + 1) rows c in o ≡ Some j)
    → (i : ℕ) × (j ≡ a + i) × (table_of (remove (r ∷ rows) i) k ≡ table_of (r ∷ rows) k)) [
      | true ↦ λ g f.
          let at : a ≡ j = cc in
          let apart : (r.client == k) ≡ false = ap (λ (v : ℕ). v == k) (number_same r.client c g) ∙ e in
          (0, omega (arith, at), rw apart refl)
      | false ↦ λ g f.
          let w = others_at (a + 1) rows c k j f e in
          let at = w.1 in
          (suc w.0, omega (arith, at), ap (λ (o : Option HandleTable). if r.client == k then Some r.handles else o) w.2)
    ] refl h

-- The others' rows stay where one is removed.
pub others_stay : (rows : List ClientHandles) (c i k : ℕ) → index_from 0 rows c ≡ Some i → (c == k) ≡ false
    → table_of (remove rows i) k ≡ table_of rows k
others_stay rows c i k h e =
    let w = others_at 0 rows c k i h e in
    let at = w.1 in
    subst (λ (v : ℕ). table_of (remove rows v) k ≡ table_of rows k) (let f : w.0 ≡ i = omega (arith, at) in f) w.2

pub tracks_dies : (d : Effects) (rows rows' : List ClientHandles) (c : ℕ) → IsRemoved rows rows' c
    → TracksRows d rows → TracksRows (Dies c ∷ d) rows'
tracks_dies d rows rows' c fo tr = record {
  balanced = step (Dies c) d (λ k m. refl) tr.balanced;
  live = subst IsOnce (sym (list_dies d c)) (once_filter (λ k. not (c == k)) (live_clients d) tr.live);
  slots = λ k.
      let old = tr.slots k in
      subst (λ (o : Option HandleTable). TracksSlots (Dies c ∷ d) k (slots_in o)) (sym (fo.tables k))
      (elim (c == k) as (λ b. (c == k) ≡ b → TracksSlots (Dies c ∷ d) k
      (slots_in (let o : Option HandleTable = if b then None else table_of rows k in o))) [
        | true ↦ λ e. tracked_none (refs_at (Dies c ∷ d) k) (number_at (Dies c ∷ d) k)
            (λ m. refs_dies d c k m ∙ rw e refl)
        | false ↦ λ e. tracked_same (refs_at d k) (number_at d k) (refs_at (Dies c ∷ d) k) (number_at (Dies c ∷ d) k)
            (slots_of rows k) (λ m. refs_dies d c k m ∙ rw e refl) (λ m. refl) old
      ] refl);
  once = fo.once;
}
