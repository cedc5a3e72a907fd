-- The counts of changes behind a seal.
use Rattle.std.proofs.Common.{◌≡◌, ℕ, ◌+◌, ◌<◌, ◌≤◌, Bool, true, false, ◌&&◌, ◌||◌, ◌==◌, List, [], ◌∷◌, ◌++◌, refl}
use Rattle.std.proofs.Common.{ap, sym, ◌∙◌, length, map, take, get_or, Option, Some, unwrap_or, if◌then◌else◌, arith}
use Rattle.std.specs.Prelude.{cond, nat_lt}
use Rattle.std.specs.List.{list_any}
use Rattle.std.proofs.lemmas.Bool.{true≢false}
use Rattle.std.proofs.lemmas.Bool.Decides.{nat_tests}
use Rattle.std.proofs.lemmas.List.{map-append, take_more}
use Rattle.std.proofs.lemmas.List.Elements.{filter-append}
use Rattle.std.proofs.lemmas.List.Folds.{list_any-append}
use Rattle.std.proofs.Common.{zero, suc, append_assoc}
use Rattle.std.specs.Prelude.{filter, slice_get}
use Rattle.std.specs.Map.{keys_of}
use Rattle.indexmap.specs.IndexMap.{insert_entry}
use Rattle.sm_values.specs.declared.number.ClientId.{ClientId}
use Rattle.sm_history.specs.declared.by.By.{By}
use Rattle.sm_history.specs.declared.by.By.TheVariants.{Manager, Client, Admin}
use Rattle.sm_history.specs.declared.entry.Entry.{Entry}
use Rattle.sm_history.specs.Effects.{Effects}
use Rattle.sm_history.specs.Clients.{is_live, live_clients, next_client}
use Rattle.sm_history.specs.declared.turn.TurnRow.{TurnRow}
use Rattle.sm_history.specs.Openings.{is_same, turns_in}
use Rattle.sm_history.specs.Histories.{History, effects_of, turn_of}
use Rattle.sm_history.specs.Segments.{is_admin, with_admin, admins_after, admins_of, client, actors_of, turn_row}
use Rattle.sm_history.specs.Segments.{sealed}
use Rattle.sm_history.specs.Sound.{Sound}
use Rattle.sm_history.specs.Segments.{admin}
use Rattle.sm_history.proofs.AfterClients.{was_not_live}
use Rattle.sm_history.proofs.Later.{sealed_turn}
use Rattle.sm_history.proofs.Living.{any_live}
use Rattle.sm_history.proofs.SegmentReads.{any_client}
use Rattle.sm_history.proofs.TurnRows.{turn_rows}
use Rattle.sm_core.specs.declared.client.LiveClient.{LiveClient}
use Rattle.sm_core.specs.declared.turns.Turns.{Turns}
use Rattle.sm_core.specs.Counting.{counted_admins, change_count, made_sealed, row_for}
use Rattle.sm_core.specs.Tables.{client_row, client_rows}

abbrev pub ids : List LiveClient → List ℕ
ids rows = map (λ (r : LiveClient). r.id) rows

more_any : (b : Bool) → (b || false) ≡ b
more_any true = refl
more_any false = refl

-- One more row was gone through.
pub any_more : (rows : List LiveClient) (i c : ℕ) (row : LiveClient) → row ≡ get_or rows i row → i < length rows
    → list_any (λ k. k == c) (ids (take (i + 1) rows)) ≡ list_any (λ k. k == c) (ids (take i rows)) || (row.id == c)
any_more rows i c row is lt =
    ap (λ (v : List LiveClient). list_any (λ k. k == c) (ids v)) (take_more rows i row lt)
    ∙ ap (λ (v : LiveClient). list_any (λ k. k == c) (ids (take i rows ++ v ∷ []))) (sym is)
    ∙ ap (list_any (λ k. k == c)) (map-append (λ (r : LiveClient). r.id) (take i rows) (row ∷ []))
    ∙ list_any-append (λ k. k == c) (ids (take i rows)) (row.id ∷ [])
    ∙ ap (λ (b : Bool). list_any (λ k. k == c) (ids (take i rows)) || b) (more_any (row.id == c))

pub older_more : (same any any' : Bool) (value made : ℕ) (o o' : Option ℕ) → o' ≡ cond same (Some value) o
    → unwrap_or o 0 ≡ (if any then made else 0) → any' ≡ any || same → (same ≡ true → value ≡ made)
    → unwrap_or o' 0 ≡ (if any' then made else 0)
older_more true true any' value made o o' e i more is =
    rw (e, more) (is refl)
older_more true false any' value made o o' e i more is =
    rw (e, more) (is refl)
older_more false true any' value made o o' e i more is =
    rw (e, more) i
older_more false false any' value made o o' e i more is =
    rw (e, more) i

pub sealed_client : (older live : Bool) (was later made : ℕ) → was ≡ (if live then made else 0) → later ≡ 0
    → (if older then was else later) ≡ (if older && live then made else 0)
sealed_client true true was later made e z = e
sealed_client true false was later made e z = e
sealed_client false live was later made e z = z

-- ---- they are the turns behind a seal

and_false : (b : Bool) → (b && false) ≡ false
and_false true = refl
and_false false = refl

ids_are : (d : Effects) (ks : List ℕ) → ids (map (client_row d) ks) ≡ ks
ids_are d [] = refl
ids_are d (k ∷ ks) = ap (λ (ns : List ℕ). k ∷ ns) (ids_are d ks)

not_below : (a b : ℕ) → nat_lt a b ≡ false → b ≤ a
not_below a b h = grind (arith, nat_tests)

-- A live client has a number that was given.
live_below : (d : Effects) (c next : ℕ) → Sound d → next ≡ next_client d → is_live d c ≡ true → nat_lt c next ≡ true
live_below d c next s is live =
    elim (nat_lt c next) as (λ b. nat_lt c next ≡ b → b ≡ true) [
      | true ↦ λ e. refl
      | false ↦ λ e.
          let le = not_below c next e in
          absurd (true≢false (sym live ∙ was_not_live d c (s.fresh c (omega (arith, le, is)))))
    ] refl

no_client_row : (c : ClientId) (rs : List TurnRow)
    → list_any (is_same (Client c)) (filter is_admin (map (λ (r : TurnRow). r.by) rs)) ≡ false
no_client_row c [] = refl
no_client_row c (r ∷ rs) =
    elim r.by as (λ (b : By). list_any (is_same (Client c))
    (if is_admin b then b ∷ filter is_admin (map (λ (x : TurnRow). x.by) rs)
    else filter is_admin (map (λ (x : TurnRow). x.by) rs)) ≡ false) [
      | Manager ↦ no_client_row c rs
      | Client k ↦ no_client_row c rs
      | Admin a ↦ no_client_row c rs
    ]

no_client_more : (c : ClientId) (b : By) (bys : List By) → list_any (is_same (Client c)) bys ≡ false
    → list_any (is_same (Client c)) (with_admin b bys) ≡ false
no_client_more c Manager bys h = h
no_client_more c (Client k) bys h = h
no_client_more c (Admin a) bys h =
    elim (list_any (is_same (Admin a)) bys) as (λ t. list_any (is_same (Client c))
    (if t then bys else bys ++ Admin a ∷ []) ≡ false) [
      | true ↦ h
      | false ↦ list_any-append (is_same (Client c)) bys (Admin a ∷ []) ∙ ap (λ (b : Bool). b || false) h
    ]

no_client_admin : (c : ClientId) (rs : List TurnRow) (es : List Entry)
    → list_any (is_same (Client c)) (admins_after rs es) ≡ false
no_client_admin c rs [] = no_client_row c rs
no_client_admin c rs (e ∷ es) = no_client_more c e.by (admins_after rs es) (no_client_admin c rs es)

-- A dead client has no turns behind a seal.
dead_turn : (h : History) (c : ClientId) → is_live (effects_of h) c.0 ≡ false → turn_of (sealed h) (Client c) ≡ 0
dead_turn h c dead =
    let d = effects_of h in
    let ks = live_clients d in
    let none : list_any (is_same (Client c)) (actors_of h) ≡ false =
    list_any-append (is_same (Client c)) (map client ks) (admins_of h)
    ∙ ap (λ (b : Bool). b || list_any (is_same (Client c)) (admins_of h)) (any_client c.0 ks ∙ any_live d c.0 ∙ dead)
    ∙ no_client_admin c h.opening.turns h.entries in
    let rows : turns_in (map (turn_row h) (actors_of h)) (Client c) ≡ 0 =
    turn_rows h (Client c) (actors_of h)
    ∙ ap (λ (b : Bool). let n : ℕ = if b then turn_of h (Client c) else 0 in n) none in
    omega (arith, rows)

pub turns_sealed : (h : History) (t t' : Turns) (rows : List LiveClient) (next : ℕ) → Sound (effects_of h)
    → ((by : By) → change_count t by ≡ turn_of h by) → rows ≡ client_rows (effects_of h)
    → next ≡ next_client (effects_of h)
    → ((by : By) → change_count t' by ≡ made_sealed (ids rows) next t by) → (by : By)
    → change_count t' by ≡ turn_of (sealed h) by
turns_sealed h t t' rows next s are er en is Manager = is Manager ∙ are Manager ∙ sym (sealed_turn h Manager refl)
turns_sealed h t t' rows next s are er en is (Admin a) = is (Admin a) ∙ are (Admin a)
    ∙ sym (sealed_turn h (Admin a) refl)
turns_sealed h t t' rows next s are er en is (Client c) =
    let d = effects_of h in
    let live : list_any (λ k. k == c.0) (ids rows) ≡ is_live d c.0 =
    ap (λ (rs : List LiveClient). list_any (λ k. k == c.0) (ids rs)) er
    ∙ ap (list_any (λ k. k == c.0)) (ids_are d (live_clients d)) ∙ any_live d c.0 in
    is (Client c)
    ∙ elim (is_live d c.0) as (λ b. is_live d c.0 ≡ b → made_sealed (ids rows) next t (Client c)
    ≡ turn_of (sealed h) (Client c)) [
      | true ↦ λ e.
          let below = live_below d c.0 next s en e in
          let kept : (nat_lt c.0 next && list_any (λ k. k == c.0) (ids rows)) ≡ true =
          ap (λ (b : Bool). b && list_any (λ k. k == c.0) (ids rows)) below ∙ live ∙ e in
          ap (λ (b : Bool). let n : ℕ = if b then change_count t (Client c) else 0 in n) kept ∙ are (Client c)
          ∙ sym (sealed_turn h (Client c) e)
      | false ↦ λ e.
          let gone : (nat_lt c.0 next && list_any (λ k. k == c.0) (ids rows)) ≡ false =
          ap (λ (b : Bool). nat_lt c.0 next && b) (live ∙ e) ∙ and_false (nat_lt c.0 next) in
          ap (λ (b : Bool). let n : ℕ = if b then change_count t (Client c) else 0 in n) gone ∙ sym (dead_turn h c e)
    ] refl

-- ---- rows

taken_suc : (xs : List ℕ) (i a : ℕ) → slice_get xs i ≡ Some a → take (suc i) xs ≡ take i xs ++ a ∷ []
taken_suc [] i a e = cc
taken_suc (x ∷ xs) zero a e = let same : x ≡ a = cc in ap (λ (n : ℕ). n ∷ []) same
taken_suc (x ∷ xs) (suc i) a e = ap (λ (ns : List ℕ). x ∷ ns) (taken_suc xs i a e)

-- One more administrator was listed.
pub admins_more : (t : Turns) (ks : List ℕ) (i a : ℕ) (start rows rows' : List TurnRow) (r : TurnRow)
    → slice_get ks i ≡ Some a → rows' ≡ rows ++ r ∷ [] → r ≡ row_for t (admin a)
    → rows ≡ start ++ map (row_for t) (map admin (take i ks))
    → rows' ≡ start ++ map (row_for t) (map admin (take (i + 1) ks))
admins_more t ks i a start rows rows' r at more is are =
    let one : i + 1 ≡ suc i = omega arith in
    let before = map (row_for t) (map admin (take i ks)) in
    let taken : map (row_for t) (map admin (take (i + 1) ks)) ≡ before ++ r ∷ [] =
    ap (λ (n : ℕ). map (row_for t) (map admin (take n ks))) one
    ∙ ap (λ (ns : List ℕ). map (row_for t) (map admin ns)) (taken_suc ks i a at)
    ∙ ap (map (row_for t)) (map-append admin (take i ks) (a ∷ []))
    ∙ map-append (row_for t) (map admin (take i ks)) (admin a ∷ [])
    ∙ ap (λ (x : TurnRow). before ++ x ∷ []) (sym is) in
    more ∙ ap (λ (rs : List TurnRow). rs ++ r ∷ []) are ∙ append_assoc start before (r ∷ [])
    ∙ ap (λ (rs : List TurnRow). start ++ rs) (sym taken)

-- One more change of an administrator, in the order of the first of each.
pub admins_counted : (es : List (ℕ × ℕ)) (k v : ℕ)
    → map admin (keys_of (insert_entry (◌==◌) es k v)) ≡ with_admin (admin k) (map admin (keys_of es))
admins_counted [] k v = refl
admins_counted (e ∷ es) k v =
    let rest = admins_counted es k v in
    let any = list_any (is_same (admin k)) (map admin (keys_of es)) in
    elim (k == e.0) as (λ b. map admin (keys_of (let xs : List (ℕ × ℕ) =
    if b then (e.0, v) ∷ es else e ∷ insert_entry (◌==◌) es k v in xs))
    ≡ (if b || any then admin e.0 ∷ map admin (keys_of es)
    else (admin e.0 ∷ map admin (keys_of es)) ++ admin k ∷ [])) [
      | true ↦ refl
      | false ↦ ap (λ (bys : List By). admin e.0 ∷ bys) rest
          ∙ elim any as (λ t. admin e.0 ∷ (if t then map admin (keys_of es)
          else map admin (keys_of es) ++ admin k ∷ [])
          ≡ (if t then admin e.0 ∷ map admin (keys_of es)
          else (admin e.0 ∷ map admin (keys_of es)) ++ admin k ∷ [])) [ true ↦ refl | false ↦ refl ]
    ]

-- ---- administrators behind a seal

one_admin : (b : By) (bys : List By) → filter is_admin bys ≡ bys → filter is_admin (with_admin b bys) ≡ with_admin b bys
one_admin Manager bys e = e
one_admin (Client c) bys e = e
one_admin (Admin a) bys e =
    elim (list_any (is_same (Admin a)) bys) as (λ t. filter is_admin (if t then bys else bys ++ Admin a ∷ [])
    ≡ (if t then bys else bys ++ Admin a ∷ [])) [
      | true ↦ e
      | false ↦ filter-append is_admin bys (Admin a ∷ []) ∙ ap (λ (xs : List By). xs ++ Admin a ∷ []) e
    ]

admins_again : (bys : List By) → filter is_admin (filter is_admin bys) ≡ filter is_admin bys
admins_again [] = refl
admins_again (b ∷ bys) =
    elim (is_admin b) as (λ t. is_admin b ≡ t → filter is_admin (if t then b ∷ filter is_admin bys
    else filter is_admin bys) ≡ (if t then b ∷ filter is_admin bys else filter is_admin bys)) [
      | true ↦ λ e. rw e (ap (λ (xs : List By). b ∷ xs) (admins_again bys))
      | false ↦ λ e. admins_again bys
    ] refl

all_admins : (rs : List TurnRow) (es : List Entry) → filter is_admin (admins_after rs es) ≡ admins_after rs es
all_admins rs [] = admins_again (map (λ (r : TurnRow). r.by) rs)
all_admins rs (e ∷ es) = one_admin e.by (admins_after rs es) (all_admins rs es)

bys_of : (h : History) (bys : List By) → map (λ (r : TurnRow). r.by) (map (turn_row h) bys) ≡ bys
bys_of h [] = refl
bys_of h (b ∷ bys) = ap (λ (xs : List By). b ∷ xs) (bys_of h bys)

no_clients : (ks : List ℕ) → filter is_admin (map client ks) ≡ []
no_clients [] = refl
no_clients (k ∷ ks) = no_clients ks

pub admins_sealed : (h : History) → admins_of (sealed h) ≡ admins_of h
admins_sealed h =
    ap (filter is_admin) (bys_of h (actors_of h))
    ∙ filter-append is_admin (map client (live_clients (effects_of h))) (admins_of h)
    ∙ ap (λ (xs : List By). xs ++ filter is_admin (admins_of h)) (no_clients (live_clients (effects_of h)))
    ∙ all_admins h.opening.turns h.entries

-- The rows of the actors.
same_rows : (h : History) (t : Turns) (bys : List By) → ((by : By) → change_count t by ≡ turn_of h by)
    → map (row_for t) bys ≡ map (turn_row h) bys
same_rows h t [] are = refl
same_rows h t (b ∷ bys) are =
    ap (λ (n : ℕ). (let r : TurnRow = record { by = b; turns = n } in r) ∷ map (row_for t) bys) (are b)
    ∙ ap (λ (rs : List TurnRow). turn_row h b ∷ rs) (same_rows h t bys are)

pub actor_rows : (h : History) (t : Turns) (rows : List LiveClient) → ((by : By) → change_count t by ≡ turn_of h by)
    → counted_admins t ≡ admins_of h → rows ≡ client_rows (effects_of h)
    → map (row_for t) (Manager ∷ map client (ids rows) ++ counted_admins t) ≡ map (turn_row h) (actors_of h)
actor_rows h t rows are admins is =
    ap (λ (bys : List By). map (row_for t) (Manager ∷ map client (ids rows) ++ bys)) admins
    ∙ ap (λ (rs : List LiveClient). map (row_for t) (Manager ∷ map client (ids rs) ++ admins_of h)) is
    ∙ ap (λ (ks : List ℕ). map (row_for t) (Manager ∷ map client ks ++ admins_of h))
    (ids_are (effects_of h) (live_clients (effects_of h)))
    ∙ same_rows h t (actors_of h) are
