-- Rows by their indices, in the order of their names.
use Rattle.std.proofs.Common.{◌≡◌, ℕ, zero, suc, ◌+◌, ◌-◌, ◌<◌, ◌≤◌, ◌==◌, List, [], ◌∷◌, ◌++◌, refl}
use Rattle.std.proofs.Common.{ap, sym, ◌∙◌, subst, length, get_or, set, take, drop, if◌then◌else◌, arith, inl, inr}
use Rattle.std.proofs.Common.{Result, Ok, Err, Some, Ordering}
use Rattle.std.specs.Prelude.{map, insert, remove}
use Rattle.std.specs.List.{swap_remove}
use Rattle.std.specs.List.Sorted.{IsSearchInRange, IsBinarySearchResult}
use Rattle.std.proofs.lemmas.Bool.{cases_eq, eq-eqb, ne_eqb}
use Rattle.std.proofs.lemmas.Bool.Decides.{nat_tests}
use Rattle.std.proofs.lemmas.List.{get_or-map, get_or-set_same, get_or-set_other, get_or_append_left, get_or_push}
use Rattle.std.proofs.lemmas.List.{take-map, drop-map, map-append, length-map, get_or-take}
use Rattle.std.proofs.lemmas.List.{get_or_default, drop_all, take_all, append-nil, take_more, get_or_read}
use Rattle.std.proofs.lemmas.List.Edits.{length-insert, length-remove}
use Rattle.std.proofs.lemmas.List.Sums.{sum_by-cons, sum_by-insert, sum_by-remove, get_or-le-sum_by}
use Rattle.sm_history.specs.declared.service.Service.{Service}
use Rattle.sm_history.specs.declared.named_row.NamedRow.{NamedRow}
use Rattle.sm_history.specs.Rising.{IsRising}
use Rattle.sm_history.specs.Tables.{names_of, row_in, service_of, IsNamePlace, IsNameChanged}
use Rattle.sm_history.proofs.NamedRows.{place_here}
use Rattle.sm_names.specs.Rows.{matching_names}
use Rattle.sm_names.proofs.RowLemmas.{matching_append}
use Rattle.sm_names.specs.Orders.{no_row, row_at, rows_at, times, IsOrder, renamed}

-- This is 1 for one index, and 0 for others.
abbrev one : ℕ → ℕ → ℕ
one j i = if i == j then 1 else 0

-- ---- how often an index is there

times_cons : (j x : ℕ) (xs : List ℕ) → times j (x ∷ xs) ≡ one j x + times j xs
times_cons j x xs = sum_by-cons (one j) x xs

one_own : (j : ℕ) → one j j ≡ 1
one_own j = rw (eq-eqb j j refl) refl

present : (xs : List ℕ) (k j : ℕ) → k < length xs → get_or xs k 0 ≡ j → 0 < times j xs
present xs k j lt e =
    let le = get_or-le-sum_by (one j) xs k 0 lt in
    let is : one j (get_or xs k 0) ≡ 1 = ap (one j) e ∙ one_own j in
    omega (arith, le, is)

found : (j : ℕ) (xs : List ℕ) → 0 < times j xs → (k : ℕ) × (k < length xs) × (get_or xs k 0 ≡ j)
found j [] lt = absurd (omega (arith, lt))
found j (x ∷ xs) lt = elim (cases_eq x j) [
  | inl e ↦ (0, omega arith, e)
  | inr ne ↦
      let r = found j xs (let c = times_cons j x xs in let z : one j x ≡ 0 = rw (ne_eqb x j ne) refl in
      omega (arith, c, z, lt)) in
      (suc r.0, omega (arith, r.1), r.2)
]

pub below : (n : ℕ) (order : List ℕ) (k : ℕ) → IsOrder n order → k < length order → get_or order k 0 < n
below n order k o lt =
    let some = present order k (get_or order k 0) lt refl in
    let once = o.once (get_or order k 0) in
    grind (arith, nat_tests, some, once)

pub once_below : (n : ℕ) (order : List ℕ) (j : ℕ) → IsOrder n order → j < n → times j order ≡ 1
once_below n order j o lt = let once = o.once j in grind (arith, nat_tests, once, lt)

-- ---- rows at indices

-- What was read at a position is an index of a row.
pub read_at : (rows : List NamedRow) (order : List ℕ) (k i : ℕ) → IsOrder (length rows) order
    → k < length (rows_at rows order) → i ≡ get_or order k i
    → (k < length order) × (get_or order k 0 ≡ i) × (i < length rows)
read_at rows order k i o lt is =
    let long = length-map order (row_at rows) in
    let lt' : k < length order = omega (arith, long, lt) in
    let e = sym (get_or_read order k i lt' is 0) in
    (lt', e, subst (λ v. v < length rows) e (below (length rows) order k o lt'))

pub at_of : (rows : List NamedRow) (order : List ℕ) (k : ℕ) (d : NamedRow) → k < length order
    → get_or (rows_at rows order) k d ≡ row_at rows (get_or order k 0)
at_of rows order k d lt = get_or-map (row_at rows) order k 0 d lt

pub next_at : (rows : List NamedRow) (order : List ℕ) (k : ℕ) → k < length order
    → take (k + 1) (rows_at rows order) ≡ take k (rows_at rows order) ++ row_at rows (get_or order k 0) ∷ []
next_at rows order k lt = let long = length-map order (row_at rows) in
    rw (take_more (rows_at rows order) k no_row (omega (arith, long, lt)), at_of rows order k no_row lt) refl

pub next_matching : (mask : ℕ) (rows : List NamedRow) (order : List ℕ) (k : ℕ) → k < length order
    → matching_names mask (take (k + 1) (rows_at rows order))
    ≡ matching_names mask (take k (rows_at rows order)) ++ matching_names mask (row_at rows (get_or order k 0) ∷ [])
next_matching mask rows order k lt = rw (next_at rows order k lt)
    (matching_append mask (take k (rows_at rows order)) (row_at rows (get_or order k 0) ∷ []))

alike : (f g : ℕ → NamedRow) (xs : List ℕ) → ((k : ℕ) → k < length xs → f (get_or xs k 0) ≡ g (get_or xs k 0))
    → map f xs ≡ map g xs
alike f g [] same = refl
alike f g (x ∷ xs) same =
    rw (same 0 (omega arith), alike f g xs (λ k lt. same (suc k) (omega (arith, lt)))) refl

unused : (rows : List NamedRow) (j : ℕ) (r : NamedRow) (xs : List ℕ) → times j xs ≡ 0
    → rows_at (set rows j r) xs ≡ rows_at rows xs
unused rows j r xs none = alike (row_at (set rows j r)) (row_at rows) xs
    (λ k lt. get_or-set_other rows j (get_or xs k 0) r no_row
    (λ e. let some = present xs k j lt e in absurd (omega (arith, some, none))))

-- Writing the row with an index that is there once.
pub set_one : (rows : List NamedRow) (order : List ℕ) (k j : ℕ) (r : NamedRow) → k < length order
    → get_or order k 0 ≡ j → times j order ≡ 1 → j < length rows
    → rows_at (set rows j r) order ≡ set (rows_at rows order) k r
set_one rows [] k j r lt e once in' = absurd (omega (arith, lt))
set_one rows (x ∷ xs) zero j r lt e once in' =
    let c = times_cons j x xs in
    let z : one j x ≡ 1 = ap (one j) e ∙ one_own j in
    let rest = unused rows j r xs (omega (arith, c, z, once)) in
    let head : row_at (set rows j r) x ≡ r = ap (row_at (set rows j r)) e ∙ get_or-set_same rows j r no_row in' in
    rw (head, rest) refl
set_one rows (x ∷ xs) (suc k) j r lt e once in' =
    let lt' : k < length xs = omega (arith, lt) in
    let some = present xs k j lt' e in
    let c = times_cons j x xs in
    let head : row_at (set rows j r) x ≡ row_at rows x = get_or-set_other rows j x r no_row
    (λ f. let z : one j x ≡ 1 = ap (one j) f ∙ one_own j in absurd (omega (arith, c, z, once, some))) in
    let rest = set_one rows xs k j r lt' e (omega (arith, c, once, some)) in' in
    rw (head, rest) refl

-- ---- bisection

pub searched_at : (ord : NamedRow → Ordering) (rows : List NamedRow) (order : List ℕ) (o : Result ℕ ℕ)
    → IsSearchInRange o (length order) → IsBinarySearchResult (λ i. ord (row_at rows i)) order o
    → IsBinarySearchResult ord (rows_at rows order) o
searched_at ord rows order (Ok i) lt at = λ d. ap ord (at_of rows order i d lt) ∙ at 0
searched_at ord rows order (Err i) le at =
    let long = length-map order (row_at rows) in
    λ rises. let parts = at (λ a b d ab bn. let h = rises a b no_row ab (omega (arith, long, bn)) in
    rw (
      get_or_default order a d 0 (omega arith),
      get_or_default order b d 0 bn,
      ← at_of rows order a no_row (omega arith),
      ← at_of rows order b no_row bn,
    ) h) in (
      λ k d a b. ap ord (at_of rows order k d (omega (arith, le, b))) ∙ parts.0 k 0 a b,
      λ k d a b. ap ord (at_of rows order k d (omega (arith, long, b))) ∙ parts.1 k 0 a (omega (arith, long, b)),
    )

-- ---- a row that was guessed

-- The row with an index has a position, which is that of its name.
placed : (rows : List NamedRow) (order : List ℕ) (i : ℕ) (name : List ℕ) → IsOrder (length rows) order
    → i < length rows → (row_at rows i).name ≡ name → IsRising (names_of (rows_at rows order))
    → (k : ℕ) × (k < length order) × (get_or order k 0 ≡ i) × IsNamePlace (rows_at rows order) name k
placed rows order i name o lt is rises =
    let once = once_below (length rows) order i o lt in
    let at = found i order (omega (arith, once)) in
    let long = length-map order (row_at rows) in
    let here = λ (r : NamedRow). at_of rows order at.0 r at.1 ∙ ap (row_at rows) at.2 in (
      at.0,
      at.1,
      at.2,
      place_here (rows_at rows order) name at.0 rises (omega (arith, long, at.1))
          (λ r. ap (λ (v : NamedRow). v.name) (here r) ∙ is),
    )

pub guessed : (rows : List NamedRow) (order : List ℕ) (i : ℕ) (name : List ℕ) → IsOrder (length rows) order
    → i < length rows → (row_at rows i).name ≡ name → IsRising (names_of (rows_at rows order))
    → service_of (row_in (rows_at rows order) name) ≡ Some (row_at rows i).service
guessed rows order i name o lt is rises =
    let at = placed rows order i name o lt is rises in
    rw (at.3.here no_row, at_of rows order at.0 no_row at.1, at.2) refl

pub put_guessed : (rows : List NamedRow) (order : List ℕ) (i : ℕ) (name own : List ℕ) (s : Service)
    → IsOrder (length rows) order → i < length rows → (row_at rows i).name ≡ name → own ≡ name
    → IsRising (names_of (rows_at rows order))
    → IsNameChanged (rows_at rows order) (rows_at (set rows i (record { name = own; service = s })) order) name
    (Some (record { name = name; service = s }))
put_guessed rows order i name own s o lt is same rises =
    let at = placed rows order i name o lt is rises in
    let r : NamedRow = record { name = name; service = s } in
    rw (same, set_one rows order at.0 i r at.1 at.2 (once_below (length rows) order i o lt) lt) (at.3.written r refl)

-- ---- one row more

map_insert : (f : ℕ → NamedRow) (xs : List ℕ) (p i : ℕ) → map f (insert xs p i) ≡ insert (map f xs) p (f i)
map_insert f xs p i = rw (map-append, take-map, drop-map) refl

pub inserted : (rows : List NamedRow) (order : List ℕ) (p : ℕ) (r : NamedRow) → IsOrder (length rows) order
    → rows_at (rows ++ r ∷ []) (insert order p (length rows)) ≡ insert (rows_at rows order) p r
inserted rows order p r o =
    let own = get_or_push rows r no_row (length rows) refl in
    let rest = alike (row_at (rows ++ r ∷ [])) (row_at rows) order
    (λ k lt. get_or_append_left rows (r ∷ []) no_row (get_or order k 0) (below (length rows) order k o lt)) in
    map_insert (row_at (rows ++ r ∷ [])) order p (length rows) ∙ rw (own, rest) refl

pub order_inserted : (n : ℕ) (order : List ℕ) (p : ℕ) → IsOrder n order → p ≤ length order
    → IsOrder (n + 1) (insert order p n)
order_inserted n order p o le = record {
  long = length-insert order p n le ∙ ap (λ v. v + 1) o.long;
  once = λ j. let more = sum_by-insert (one j) order p n in let once = o.once j in
      grind (arith, nat_tests, more, once);
}

-- ---- one row less

-- All that is left was written anew.
pub renamed_all : (f : ℕ → ℕ) (xs left new : List ℕ) (n : ℕ) → left ≡ xs → new ≡ map f left → n ≡ length left
    → take n (new ++ drop (length new) left) ≡ map f xs
renamed_all f xs left new n e is all =
    let long = ap length is ∙ length-map left f in
    rw (drop_all (length new) left (omega arith), append-nil, take_all n new (omega arith), is, e) refl

map_remove : (f : ℕ → NamedRow) (xs : List ℕ) (p : ℕ) → map f (remove xs p) ≡ remove (map f xs) p
map_remove f xs p = rw (map-append, take-map, drop-map) refl

alike_renamed : (f g : ℕ → NamedRow) (from to : ℕ) (xs : List ℕ)
    → ((k : ℕ) → k < length xs → f (renamed from to (get_or xs k 0)) ≡ g (get_or xs k 0))
    → map f (map (renamed from to) xs) ≡ map g xs
alike_renamed f g from to [] same = refl
alike_renamed f g from to (x ∷ xs) same =
    rw (same 0 (omega arith), alike_renamed f g from to xs (λ k lt. same (suc k) (omega (arith, lt)))) refl

-- What an index leads to after the last row moved to index i.
moved : (rows : List NamedRow) (i last v : ℕ) (x : NamedRow) → length rows ≡ last + 1 → i < length rows
    → v < length rows → (v ≡ i → ⊥) → row_at (swap_remove rows i x) (renamed last i v) ≡ row_at rows v
moved rows i last v x long in' lt ne =
    let l : length rows - 1 ≡ last = omega (arith, long) in
    let y = get_or rows last x in
    rw l (elim (cases_eq v last) [
      | inl e ↦ let less : i < last = omega (arith, long, in', ne, e) in
          rw (eq-eqb v last e, get_or-take last (set rows i y) i no_row less, get_or-set_same rows i y no_row in')
          (get_or_default rows last x no_row (omega (arith, long)) ∙ sym (ap (row_at rows) e))
      | inr f ↦ let less : v < last = omega (arith, long, lt, f) in
          rw (ne_eqb v last f, get_or-take last (set rows i y) v no_row less) (get_or-set_other rows i v y no_row ne)
    ])

-- One index, replaced or not.
one_renamed : (from to j x : ℕ)
    → one j (renamed from to x) + (if j == from then one from x else 0) ≡ one j x + (if j == to then one from x else 0)
one_renamed from to j x = grind (arith, nat_tests)

times_renamed : (from to j : ℕ) (xs : List ℕ)
    → times j (map (renamed from to) xs) + (if j == from then times from xs else 0)
    ≡ times j xs + (if j == to then times from xs else 0)
times_renamed from to j [] = grind (arith, nat_tests)
times_renamed from to j (x ∷ xs) =
    let first = one_renamed from to j x in
    let rest = times_renamed from to j xs in
    let new = times_cons j (renamed from to x) (map (renamed from to) xs) in
    let old = times_cons j x xs in
    let gone = times_cons from x xs in
    grind (arith, nat_tests, first, rest, new, old, gone)

-- The indices that are left are not that of the removed row.
other_left : (n : ℕ) (order : List ℕ) (p i k : ℕ) → IsOrder n order → p < length order → get_or order p 0 ≡ i
    → k < length (remove order p) → (get_or (remove order p) k 0 < n) × (get_or (remove order p) k 0 ≡ i → ⊥)
other_left n order p i k o lt e lt' =
    let v = get_or (remove order p) k 0 in
    let less = sum_by-remove (one v) order p 0 lt in
    let some = present (remove order p) k v lt' refl in
    let once = o.once v in (
      grind (arith, nat_tests, less, some, once),
      λ f. let own : one v (get_or order p 0) ≡ 1 = ap (one v) (e ∙ sym f) ∙ one_own v in
          grind (arith, nat_tests, less, some, once, own),
    )

pub removed : (rows : List NamedRow) (order : List ℕ) (p i last : ℕ) (x : NamedRow) → IsOrder (length rows) order
    → p < length order → get_or order p 0 ≡ i → length rows ≡ last + 1
    → rows_at (swap_remove rows i x) (map (renamed last i) (remove order p)) ≡ remove (rows_at rows order) p
removed rows order p i last x o lt e long =
    let in' : i < length rows = subst (λ v. v < length rows) e (below (length rows) order p o lt) in
    alike_renamed (row_at (swap_remove rows i x)) (row_at rows) last i (remove order p)
    (λ k lt'. let v = other_left (length rows) order p i k o lt e lt' in
    moved rows i last (get_or (remove order p) k 0) x long in' v.0 v.1)
    ∙ map_remove (row_at rows) order p

pub order_removed : (n : ℕ) (order : List ℕ) (p i last : ℕ) → IsOrder n order → p < length order
    → get_or order p 0 ≡ i → n ≡ last + 1 → IsOrder last (map (renamed last i) (remove order p))
order_removed n order p i last o lt e long = record {
  long =
      let less = length-remove order p lt in
      let same = length-map (remove order p) (renamed last i) in
      let was = o.long in
      omega (arith, less, same, was, long);
  once = λ j.
      let new = times_renamed last i j (remove order p) in
      let here = sum_by-remove (one j) order p 0 lt in
      let there = sum_by-remove (one last) order p 0 lt in
      let was = o.once j in
      let was_last = o.once last in
      let in' : i < n = subst (λ v. v < n) e (below n order p o lt) in
      let own : one j (get_or order p 0) ≡ one j i = ap (one j) e in
      let own_last : one last (get_or order p 0) ≡ one last i = ap (one last) e in
      grind (arith, nat_tests, new, here, there, was, was_last, in', own, own_last, long);
}

-- ---- an index that is replaced where it was guessed

none_renamed : (from to : ℕ) (xs : List ℕ) → times from xs ≡ 0 → map (renamed from to) xs ≡ xs
none_renamed from to [] none = refl
none_renamed from to (x ∷ xs) none =
    let c = times_cons from x xs in
    let head : renamed from to x ≡ x = grind (arith, nat_tests, c, none) in
    rw (head, none_renamed from to xs (omega (arith, c, none))) refl

pub set_renamed : (from to p : ℕ) (xs : List ℕ) → p < length xs → get_or xs p 0 ≡ from → times from xs ≤ 1
    → set xs p to ≡ map (renamed from to) xs
set_renamed from to p [] lt e once = absurd (omega (arith, lt))
set_renamed from to zero (x ∷ xs) lt e once =
    let c = times_cons from x xs in
    let z : one from x ≡ 1 = ap (one from) e ∙ one_own from in
    let rest = none_renamed from to xs (omega (arith, c, z, once)) in
    let head : renamed from to x ≡ to = grind (arith, nat_tests, e) in
    rw (head, rest) refl
set_renamed from to (suc p) (x ∷ xs) lt e once =
    let lt' : p < length xs = omega (arith, lt) in
    let some = present xs p from lt' e in
    let c = times_cons from x xs in
    let head : renamed from to x ≡ x = grind (arith, nat_tests, c, once, some) in
    rw (head, ← set_renamed from to p xs lt' e (omega (arith, c, once, some))) refl

-- What is left of an order has each index once at most.
pub once_left : (n : ℕ) (order : List ℕ) (p j : ℕ) → IsOrder n order → p < length order
    → times j (remove order p) ≤ 1
once_left n order p j o lt =
    let less = sum_by-remove (one j) order p 0 lt in
    let once = o.once j in
    grind (arith, nat_tests, less, once)
