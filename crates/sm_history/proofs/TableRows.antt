-- Tables that are what effects left are the rows of the effects.
use Rattle.std.proofs.Common.{inl, inr, ◌⊎◌, ◌≡◌, ℕ, zero, suc, ◌+◌, ◌≤◌, Bool, true, false, ◌==◌, List, [], ◌∷◌, refl}
use Rattle.std.proofs.Common.{ap, sym, ◌∙◌, subst, length, map, Option, Some, None, arith, cond}
use Rattle.std.specs.Prelude.{filter_map, option_map, is_some}
use Rattle.std.specs.List.{list_any, flat_map, range_with_len, cons_option}
use Rattle.std.proofs.lemmas.Bool.{or_parts}
use Rattle.std.proofs.lemmas.List.{get_or_past}
use Rattle.sm_values.specs.declared.number.Node.{Node}
use Rattle.sm_history.specs.declared.service.Service.{Service}
use Rattle.sm_history.specs.declared.held.Held.{Held}
use Rattle.sm_history.specs.declared.client_row.ClientRow.{ClientRow}
use Rattle.sm_history.specs.declared.tables.Tables.{Tables}
use Rattle.sm_history.specs.Effects.{Effects}
use Rattle.sm_history.specs.Holdings.{number_at, node_at, held_nodes, refs_at}
use Rattle.sm_history.specs.Services.{service_at, current_names, names_added}
use Rattle.sm_history.specs.Sound.{Sound, IsOnce}
use Rattle.sm_history.specs.Rows.{LiveRow, NamedRow, live_row, top_number, held_row, held_under, held_rows, named_under}
use Rattle.sm_history.specs.Rows.{waiting_rows, rows_at}
use Rattle.sm_history.specs.Tables.{Slots, slot, slot_at, slot_row, slot_under, client_row_of, row_in, names_of}
use Rattle.sm_history.specs.Tables.{service_of, clients_of, live_of, held_of, waiting_of, tables_of, IsClient}
use Rattle.sm_history.specs.Tables.{IsRowFor, TracksNames, TracksTables}
use Rattle.sm_history.proofs.HeldAlike.{node_held, held_among}
use Rattle.sm_history.proofs.RowsBack.{below_top}
use Rattle.sm_history.proofs.PutRows.{AllOf}
use Rattle.sm_history.proofs.Rising.{rising_same, rising_filter, rising_added, in_current}
use Rattle.sm_history.proofs.ClientRows.{self_same}
use Rattle.sm_history.proofs.NamedRows.{in_names, rows_found}
use Rattle.sm_history.proofs.Balanced.{number_same}
use Rattle.sm_history.proofs.RowsSound.{filter_map_alike}

-- ---- what is held, by numbers

past : {X : Type 0} (f : ℕ → Option X) (b n : ℕ) → ((k : ℕ) → b ≤ k → f k ≡ None)
    → filter_map f (range_with_len b n) ≡ []
past f b zero none = refl
past f b (suc n) none = rw (none b (omega arith)) (past f (b + 1) n (λ k le. none k (omega (arith, le))))

-- What a longer range finds no more of is found in the shorter one.
longer : {X : Type 0} (f : ℕ → Option X) (b n m : ℕ) → n ≤ m → ((k : ℕ) → b + n ≤ k → f k ≡ None)
    → filter_map f (range_with_len b n) ≡ filter_map f (range_with_len b m)
longer f b zero m le none = sym (past f b m (λ k h. none k (omega (arith, h))))
longer f b (suc n) zero le none = absurd (omega (arith, le))
longer f b (suc n) (suc m) le none =
    ap (λ xs. cons_option (f b) xs) (longer f (b + 1) n m (omega (arith, le)) (λ k h. none k (omega (arith, h))))

any_range : {X : Type 0} (f : ℕ → Option X) (n m : ℕ) → ((k : ℕ) → n ≤ k → f k ≡ None)
    → ((k : ℕ) → m ≤ k → f k ≡ None) → (n ≤ m) ⊎ (m ≤ n)
    → filter_map f (range_with_len 0 n) ≡ filter_map f (range_with_len 0 m)
any_range f n m a b (inl le) = longer f 0 n m le (λ k h. a k (omega (arith, h)))
any_range f n m a b (inr le) = sym (longer f 0 m n le (λ k h. b k (omega (arith, h))))

order : (n m : ℕ) → (n ≤ m) ⊎ (m ≤ n)
order zero m = inl (omega arith)
order (suc n) zero = inr (omega arith)
order (suc n) (suc m) = elim (order n m) as (λ _. (suc n ≤ suc m) ⊎ (suc m ≤ suc n))
    [ inl le ↦ inl (omega (arith, le)) | inr le ↦ inr (omega (arith, le)) ]

-- Under no number behind the greatest is anything held.
none_above : (d : Effects) (c k : ℕ) (o : Option Node) → node_at d c k ≡ o → top_number d c + 1 ≤ k → o ≡ None
none_above d c k None is le = refl
none_above d c k (Some n) is le =
    let f = node_held d c k n is in
    let top = below_top (number_at d c) (held_nodes d c) n (held_among d c n f.0) in
    let number = f.1 in
    absurd (omega (arith, le, top, number))

under_case : (d : Effects) (c k : ℕ) (o : Option Node)
    → option_map (slot_row c k) (let h : Option Held = option_map
    (λ n. record { node = n; count = refs_at d c n }) o in h)
    ≡ option_map (held_row d c k) o
under_case d c k None = refl
under_case d c k (Some n) = refl

held_are : (d : Effects) (c : ℕ) (s : Slots) → ((k : ℕ) → slot s k ≡ slot_at d c k)
    → filter_map (slot_under c s) (range_with_len 0 (length s)) ≡ held_rows d c
held_are d c s held =
    let same : (k : ℕ) → slot_under c s k ≡ held_under d c k =
    λ k. ap (option_map (slot_row c k)) (held k) ∙ under_case d c k (node_at d c k) in
    let above : (k : ℕ) → top_number d c + 1 ≤ k → held_under d c k ≡ None =
    λ k le. ap (option_map (held_row d c k)) (none_above d c k (node_at d c k) refl le) in
    filter_map_alike (slot_under c s) (held_under d c) (range_with_len 0 (length s)) same
    ∙ any_range (held_under d c) (length s) (top_number d c + 1)
    (λ k le. sym (same k) ∙ ap (option_map (slot_row c k)) (get_or_past s k None le)) above
    (order (length s) (top_number d c + 1))

-- ---- clients

none_of : (rows : List ClientRow) (c : ℕ) → list_any (λ y. y == c) (clients_of rows) ≡ false
    → client_row_of rows c ≡ None
none_of [] c h = refl
none_of (r ∷ rs) c h =
    let parts = or_parts (r.client == c) (list_any (λ y. y == c) (clients_of rs)) h in
    rw parts.0 (none_of rs c parts.1)

tail_for : (d : Effects) (r : ClientRow) (rs : List ClientRow) (c : ℕ) (t : Bool) → (r.client == c) ≡ t
    → (t ≡ true → client_row_of rs c ≡ None) → IsRowFor d c (cond t (Some r) (client_row_of rs c))
    → IsRowFor d c (client_row_of rs c)
tail_for d r rs c true e none h = subst (IsRowFor d c) (sym (none refl)) tt
tail_for d r rs c false e none h = h

-- Each row is the one of its client.
pub each_row : (d : Effects) (rows : List ClientRow) → IsOnce (clients_of rows) → ((c : ℕ)
    → IsRowFor d c (client_row_of rows c))
    → AllOf (λ r. IsClient d r.client r) rows
each_row d [] once each = tt
each_row d (r ∷ rs) once each = (
  subst (λ (b : Bool). IsRowFor d r.client (cond b (Some r) (client_row_of rs r.client))) (self_same r.client)
      (each r.client),
  each_row d rs once.1 (λ c. tail_for d r rs c (r.client == c) refl
      (λ e. subst (λ (v : ℕ). client_row_of rs v ≡ None) (number_same r.client c e) (none_of rs r.client once.0))
      (each c)),
)

live_are : (d : Effects) (rows : List ClientRow) → AllOf (λ r. IsClient d r.client r) rows
    → map live_of rows ≡ map (live_row d) (clients_of rows)
live_are d [] all = refl
live_are d (r ∷ rs) all = rw (all.0.who) (ap (λ (l : List LiveRow). live_row d r.client ∷ l) (live_are d rs all.1))

all_held : (d : Effects) (rows : List ClientRow) → AllOf (λ r. IsClient d r.client r) rows
    → flat_map held_of rows ≡ flat_map (held_rows d) (clients_of rows)
all_held d [] all = refl
all_held d (r ∷ rs) all = rw (held_are d r.client r.held.items all.0.held, all_held d rs all.1) refl

all_waiting : (d : Effects) (rows : List ClientRow) → AllOf (λ r. IsClient d r.client r) rows
    → flat_map waiting_of rows ≡ flat_map (waiting_rows d) (clients_of rows)
all_waiting d [] all = refl
all_waiting d (r ∷ rs) all = rw (all.0.waiting, all_waiting d rs all.1) refl

-- ---- names

is_some-service : (o : Option NamedRow) → is_some o ≡ is_some (service_of o)
is_some-service None = refl
is_some-service (Some r) = refl

-- The rows are those of the names that have a service.
pub names_are : (d : Effects) (rows : List NamedRow) → TracksNames d rows → names_of rows ≡ current_names d
names_are d rows tr =
    rising_same (names_of rows) (current_names d) tr.rises (rising_filter (λ n. is_some (service_at d n))
    (names_added d) (rising_added d))
    (λ q. in_names rows q ∙ is_some-service (row_in rows q)
    ∙ ap (λ (o : Option Service). is_some o) (tr.services q) ∙ sym (in_current d q))

named_are : (d : Effects) (rows : List NamedRow) → TracksNames d rows
    → rows ≡ filter_map (named_under d) (current_names d)
named_are d rows tr =
    rows_found (service_at d) rows tr.rises tr.services
    ∙ ap (filter_map (named_under d)) (names_are d rows tr)

-- ---- all of them

pub tables_are : (d : Effects) (t : Tables) → Sound d → TracksTables d t → tables_of t ≡ rows_at d
tables_are d t s tr =
    let rows = t.live.items in
    let ids = tr.live.ids in
    let all = each_row d rows (subst IsOnce (sym ids) s.once) tr.live.each in
    let live = live_are d rows all ∙ ap (map (live_row d)) ids in
    let held = all_held d rows all ∙ ap (flat_map (held_rows d)) ids in
    let waiting = all_waiting d rows all ∙ ap (flat_map (waiting_rows d)) ids in
    let named = named_are d t.names.items tr.names in
    rw (tr.manager, tr.policy, tr.version, tr.clients, live, held, named, tr.watches, waiting) refl
