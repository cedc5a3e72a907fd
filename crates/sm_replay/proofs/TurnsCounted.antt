-- The number of changes of each actor, after one more, and the rows of the turns.
use Rattle.std.proofs.Common.{◌≡◌, ℕ, ◌+◌, ◌<◌, Bool, true, false, ◌||◌, ◌==◌, List, [], ◌∷◌, ◌++◌, refl, ap, sym, ◌∙◌}
use Rattle.std.proofs.Common.{map, length, drop, get_or, ◌-◌, if◌then◌else◌, arith}
use Rattle.std.specs.Prelude.{min}
use Rattle.std.specs.List.{list_any}
use Rattle.std.proofs.lemmas.List.Folds.{list_any-append}
use Rattle.sm_history.specs.declared.limits.TheConstants.{GREATEST}
use Rattle.sm_history.specs.declared.by.By.{By}
use Rattle.sm_history.specs.declared.by.By.TheVariants.{Manager, Client, Admin}
use Rattle.sm_history.specs.declared.entry.Entry.{Entry}
use Rattle.sm_history.specs.declared.client_row.ClientRow.{ClientRow}
use Rattle.sm_replay.specs.declared.turning.Turning.{Turning}
use Rattle.sm_history.specs.Clients.{live_clients}
use Rattle.sm_history.specs.declared.turn.TurnRow.{TurnRow}
use Rattle.sm_history.specs.Openings.{is_same, turns_in}
use Rattle.sm_history.specs.Histories.{History, entered, effects_of, turn_of}
use Rattle.sm_history.specs.Segments.{is_admin, with_admin, admins_of, client, actors_of, turn_row}
use Rattle.sm_history.specs.Tables.{clients_of}
use Rattle.sm_replay.specs.Turning.{CountsTurns, admins_in, has_made, is_known, made, more_by, turn_rows}
use Rattle.sm_history.specs.Segments.{admin}
use Rattle.sm_replay.specs.Turning.{with_order}
use Rattle.sm_history.proofs.LawfulLaws.{turn_more, turn_same}
use Rattle.sm_history.proofs.Balanced.{turned, number_same}
use Rattle.std.proofs.lemmas.List.{drop_more, map-append}

pub same_turned : (a b : By) → is_same a b ≡ is_same b a
same_turned Manager Manager = refl
same_turned (Client a) (Client b) = turned a.0 b.0
same_turned (Admin a) (Admin b) = turned a.0 b.0
same_turned _ _ = refl

least : (v g : ℕ) → v < g → min (v + 1) g ≡ v + 1
least v g lt = omega (arith, lt)

more_is : (h : History) (e : Entry) (b : By) → turn_of h b < GREATEST
    → more_by (is_same e.by b) (turn_of h b) ≡ turn_of (entered e h) b
more_is h e b lt =
    elim (is_same e.by b) as (λ t. is_same e.by b ≡ t
    → (if t then min (turn_of h b + 1) GREATEST else turn_of h b) ≡ turn_of (entered e h) b) [
      | true ↦ λ same. least (turn_of h b) GREATEST lt ∙ sym (turn_same e h b (same_turned b e.by ∙ same))
      | false ↦ λ other. sym (turn_more e h b (same_turned b e.by ∙ other))
    ] refl

order_case : (a : _) (t : Bool) (order : List ℕ) (as' : List By) → map admin order ≡ as'
    → map admin (with_order (Admin a) t order) ≡ (if t then as' else as' ++ Admin a ∷ [])
order_case a true order as' is = is
order_case a false order as' is = map-append admin order (a.0 ∷ []) ∙ ap (λ (l : List By). l ++ Admin a ∷ []) is

order_is : (by : By) (t : Bool) (order : List ℕ) (as' : List By) → map admin order ≡ as'
    → ((a : _) → by ≡ Admin a → t ≡ list_any (is_same (Admin a)) as')
    → map admin (with_order by t order) ≡ with_admin by as'
order_is Manager true order as' is known = is
order_is Manager false order as' is known = is
order_is (Client c) true order as' is known = is
order_is (Client c) false order as' is known = is
order_is (Admin a) t order as' is known =
    order_case a t order as' is ∙ ap (λ (v : Bool). let l : List By = if v then as' else as' ++ Admin a ∷ [] in l)
    (known a refl)

or_turned : (a b : Bool) → (a || b) ≡ (b || (a || false))
or_turned true true = refl
or_turned true false = refl
or_turned false true = refl
or_turned false false = refl

absorbed : (a b : Bool) → (a ≡ true → b ≡ true) → (a || b) ≡ b
absorbed true b h = sym (h refl)
absorbed false b h = refl

known_case : (k : ℕ) (a : _) (t : Bool) (as' : List By) → list_any (is_same (Admin a)) as' ≡ t
    → (is_same (Admin a) (admin k) || list_any (is_same (admin k)) as')
    ≡ list_any (is_same (admin k)) (if t then as' else as' ++ Admin a ∷ [])
known_case k a true as' is =
    absorbed (a.0 == k) (list_any (is_same (admin k)) as')
    (λ same. ap (λ (v : ℕ). list_any (is_same (admin v)) as') (sym (number_same a.0 k same)) ∙ is)
known_case k a false as' is =
    or_turned (a.0 == k) (list_any (is_same (admin k)) as')
    ∙ ap (λ (v : Bool). list_any (is_same (admin k)) as' || (v || false)) (turned a.0 k)
    ∙ sym (list_any-append (is_same (admin k)) as' (Admin a ∷ []))

known_is : (by : By) (k : ℕ) (as' : List By)
    → (is_same by (admin k) || list_any (is_same (admin k)) as') ≡ list_any (is_same (admin k)) (with_admin by as')
known_is Manager k as' = refl
known_is (Client c) k as' = refl
known_is (Admin a) k as' = known_case k a (list_any (is_same (Admin a)) as') as' refl

-- One change more of an actor.
pub counted_more : (h : History) (e : Entry) (t t' : Turning) → ((b : By) → turn_of h b < GREATEST)
    → CountsTurns (turn_of h) (admins_of h) t → ((b : By) → made t' b ≡ more_by (is_same e.by b) (made t b))
    → ((a : ℕ) → is_known t' a ≡ (is_same e.by (admin a) || is_known t a))
    → t'.order.items ≡ with_order e.by (has_made t e.by) t.order.items
    → CountsTurns (turn_of (entered e h)) (admins_of (entered e h)) t'
counted_more h e t t' lt c counts knows orders = record {
  made_is = λ b. counts b ∙ ap (more_by (is_same e.by b)) (c.made_is b) ∙ more_is h e b (lt b);
  order = ap (map admin) orders ∙ order_is e.by (has_made t e.by) t.order.items (admins_of h) c.order
      (λ a is. ap (has_made t) is ∙ c.known a.0);
  known = λ k. knows k ∙ ap (λ (v : Bool). is_same e.by (admin k) || v) (c.known k) ∙ known_is e.by k (admins_of h);
}

-- ---- the rows

clients_rows : (h : History) (t : Turning) (rows : List ClientRow) → ((b : By) → made t b ≡ turn_of h b)
    → map (λ (r : ClientRow). let x : TurnRow = record {
      by = client r.client;
      turns = made t
          (client r.client);
    } in x) rows
    ≡ map (turn_row h) (map client (clients_of rows))
clients_rows h t [] same = refl
clients_rows h t (r ∷ rs) same = rw (same (client r.client), clients_rows h t rs same) refl

admins_rows : (h : History) (t : Turning) (order : List ℕ) → ((b : By) → made t b ≡ turn_of h b)
    → map (λ (a : ℕ). let x : TurnRow = record { by = admin a; turns = made t (admin a) } in x) order
    ≡ map (turn_row h) (map admin order)
admins_rows h t [] same = refl
admins_rows h t (a ∷ as') same = rw (same (admin a), admins_rows h t as' same) refl

pub rows_are : (h : History) (t : Turning) (rows : List ClientRow) → CountsTurns (turn_of h) (admins_of h) t
    → clients_of rows ≡ live_clients (effects_of h) → turn_rows t rows ≡ map (turn_row h) (actors_of h)
rows_are h t rows c ids =
    let ks = map client (live_clients (effects_of h)) in
    rw (c.made_is Manager, map-append (turn_row h) ks (admins_of h), clients_rows h t rows c.made_is, ids)
    (rw (admins_rows h t t.order.items c.made_is, c.order) refl)

-- ---- rows to begin with

known_of : (b : By) (a : ℕ) (bs : List By) (k : Bool) → k ≡ list_any (is_same (admin a)) bs
    → (is_same b (admin a) || k) ≡ list_any (is_same (admin a)) (if is_admin b then b ∷ bs else bs)
known_of Manager a bs k is = is
known_of (Client c) a bs k is = is
known_of (Admin n) a bs k is = ap (λ (v : Bool). v || k) (turned n.0 a) ∙ ap (λ (v : Bool). (a == n.0) || v) is

made_of : (b by : By) (n m v : ℕ) → v ≡ (if is_same by b then n else m) → v ≡ (if is_same b by then n else m)
made_of b by n m v is = is ∙ ap (λ (t : Bool). let x : ℕ = if t then n else m in x) (same_turned by b)

-- One row more, in front of those that were counted.
pub begun_made : (row : TurnRow) (rows : List TurnRow) (b : By) (new old : ℕ)
    → new ≡ (if is_same row.by b then row.turns else old) → old ≡ turns_in rows b → new ≡ turns_in (row ∷ rows) b
begun_made row rows b new old is was =
    made_of b row.by row.turns old new is ∙ ap (λ
    (m : ℕ). let x : ℕ = if is_same b row.by then row.turns else m in x) was

pub begun_known : (row : TurnRow) (rows : List TurnRow) (a : ℕ) (new old : Bool)
    → new ≡ (is_same row.by (admin a) || old) → old ≡ list_any (is_same (admin a)) (admins_in rows)
    → new ≡ list_any (is_same (admin a)) (admins_in (row ∷ rows))
begun_known row rows a new old is was = is ∙ known_of row.by a (admins_in rows) old was

-- What is left from the place before the last k.
pub from_behind : (rows : List TurnRow) (k : ℕ) (d : TurnRow) → k < length rows
    → drop (length rows - (k + 1)) rows
    ≡ get_or rows (length rows - 1 - k) d ∷ drop (length rows - k) rows
from_behind rows k d lt =
    let i = length rows - 1 - k in
    let here : length rows - (k + 1) ≡ i = omega (arith, lt) in
    let more : i + 1 ≡ length rows - k = omega (arith, lt) in
    ap (λ (j : ℕ). drop j rows) here ∙ drop_more rows i d (omega (arith, lt))
    ∙ ap (λ (j : ℕ). get_or rows i d ∷ drop j rows) more
