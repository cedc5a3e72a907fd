-- Rows of which no two are one client's.
use Rattle.std.proofs.Common.{◌≡◌, ℕ, zero, suc, ◌+◌, ◌<◌, true, false, ◌==◌, List, [], ◌∷◌, refl, ap, sym, ◌∙◌}
use Rattle.std.proofs.Common.{length, get_or, map, set, subst, cond, Option, Some, None, if◌then◌else◌, arith}
use Rattle.std.specs.List.{find, insert, remove}
use Rattle.sm_history.specs.Sound.{IsOnce}
use Rattle.sm_history.specs.Tables.{IsFound}
use Rattle.sm_history.proofs.ClientRows.{self_same}
use Rattle.sm_history.proofs.Once.{to_once, from_once}
use Rattle.sm_history.proofs.OnceRows.{other_row}
use Rattle.sm_grants.specs.declared.rows.ClientHandles.{ClientHandles}
use Rattle.sm_grants.specs.Once.{AreOnce}
use Rattle.sm_grants.specs.Rows.{table_of}
use Rattle.sm_grants.specs.Slots.{HandleTable}
use Rattle.sm_grants.proofs.ClientRows.{fewer_among, not_among, once_inserted as inserted_once}
use Rattle.sm_grants.proofs.ClientRows.{index_from, at_row, row_set, IsChanged}

-- This is the client of a row.
abbrev pub client : ClientHandles → ℕ
client r = r.client

index_once : (a : ℕ) (rows : List ClientHandles) (c i : ℕ) (r : ClientHandles) → IsOnce (map client rows)
    → i < length rows → (get_or rows i r).client ≡ c → index_from a rows c ≡ Some (a + i)
index_once a [] c i r once lt own = absurd (omega arith)
index_once a (x ∷ xs) c zero r once lt own =
    let here : a ≡ a + 0 = omega arith in rw (own, self_same c) (ap (λ (v : ℕ). Some v) here)
index_once a (x ∷ xs) c (suc i) r once lt own =
    let there : (a + 1) + i ≡ a + suc i = omega arith in
    rw (other_row client xs c x.client i r once.0 (omega arith) own)
    (index_once (a + 1) xs c i r once.1 (omega arith) own ∙ ap (λ (v : ℕ). Some v) there)

placed : (rows : List ClientHandles) (c i : ℕ) → AreOnce rows → IsFound client rows c (Some i)
    → index_from 0 rows c ≡ Some i
placed [] c i once at = let lt = at.0 in absurd (omega (arith, lt))
placed (x ∷ xs) c i once at =
    let zero_more : 0 + i ≡ i = omega arith in
    index_once 0 (x ∷ xs) c i x (to_once (map client (x ∷ xs)) once) at.0 (at.1 x) ∙ ap (λ (v : ℕ). Some v) zero_more

-- A row that was found anywhere.
pub sought : {rows seen : List ClientHandles} {c i : ℕ} → seen ≡ rows → AreOnce rows → IsFound client seen c (Some i)
    → index_from 0 rows c ≡ Some i
sought {rows} {seen} {c} {i} same once at =
    placed rows c i once (subst (λ (v : List ClientHandles). IsFound client v c (Some i)) same at)

no_table : (rows : List ClientHandles) (c : ℕ) → find (λ r. r.client == c) rows ≡ None → table_of rows c ≡ None
no_table [] c none = refl
no_table (x ∷ xs) c none =
    elim (x.client == c) as (λ b. cond b (Some x) (find (λ r. r.client == c) xs) ≡ None
    → (let o : Option HandleTable = if b then Some x.handles else table_of xs c in o) ≡ None) [
      | true ↦ λ f. cc
      | false ↦ λ f. no_table xs c f
    ] none

pub none_here : {rows seen : List ClientHandles} (c : ℕ) → seen ≡ rows → IsFound client seen c None
    → table_of rows c ≡ None
none_here {rows} c same none = no_table rows c (subst (λ (v : List ClientHandles). IsFound client v c None) same none)

-- A client's row that was read at its index, and what writing a table there changes.
pub row_here : {rows seen : List ClientHandles} {c i : ℕ} {r : ClientHandles} → seen ≡ rows → AreOnce rows
    → IsFound client seen c (Some i) → r ≡ get_or rows i r → (table_of rows c ≡ Some r.handles) × (r.client ≡ c)
    × ((t : HandleTable) → IsChanged rows (set rows i (record { client = r.client; handles = t })) c t)
row_here {rows} {seen} {c} {i} {r} same once found is =
    let h = sought same once found in
    let w = (at_row rows c i h).here r in
    let own = ap (λ (x : ClientHandles). x.client) is ∙ w.1 in
    (w.0 ∙ ap (λ (x : ClientHandles). Some x.handles) (sym is), own, λ t. row_set rows c i _ h own)

-- ---- the rows of a table that changes

pub once_inserted : (rows : List ClientHandles) (i : ℕ) (r : ClientHandles) → table_of rows r.client ≡ None
    → AreOnce rows → AreOnce (insert rows i r)
once_inserted rows i r none once =
    from_once (map client (insert rows i r)) (inserted_once rows i r (not_among rows r.client none)
    (to_once (map client rows) once))

removed_once : (rows : List ClientHandles) (i : ℕ) → IsOnce (map client rows) → IsOnce (map client (remove rows i))
removed_once [] zero once = tt
removed_once [] (suc i) once = tt
removed_once (x ∷ xs) zero once = once.1
removed_once (x ∷ xs) (suc i) once = (fewer_among xs i x.client once.0, removed_once xs i once.1)

pub once_removed : (rows : List ClientHandles) (i : ℕ) → AreOnce rows → AreOnce (remove rows i)
once_removed rows i once =
    from_once (map client (remove rows i)) (removed_once rows i (to_once (map client rows) once))
