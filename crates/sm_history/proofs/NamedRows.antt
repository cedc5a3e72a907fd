-- Rows whose names rise: the index of a name's row, and the rows after a change of one.
use Rattle.std.proofs.Common.{◌≡◌, ℕ, zero, suc, ◌<◌, ◌≤◌, Bool, true, false, ◌||◌, List, [], ◌∷◌, refl, ap, sym, ◌∙◌}
use Rattle.std.proofs.Common.{subst, length, get_or, set, cond, Option, Some, None, Result, Ok, Err}
use Rattle.std.proofs.Common.{if◌then◌else◌, arith, add-one}
use Rattle.std.specs.Prelude.{bytes_eq, filter, filter_map, option_map, insert, remove, is_some, MatchResult}
use Rattle.std.specs.List.{AllWithin}
use Rattle.std.specs.List.Sorted.{IsSortedBy, IsSearchInRange, IsBinarySearchResult}
use Rattle.std.specs.Ordering.{nat_cmp, is_lt, ordering_reverse}
use Rattle.std.specs.Cmp.Lexicographic.{slice_cmp}
use Rattle.std.specs.declared.cmp.Ordering.TheVariants.{Less, Greater}
use Rattle.std.proofs.lemmas.Cmp.{nat_list_cmp_total}
use Rattle.std.proofs.lemmas.List.Sorted.{searchable_from_sorted}
use Rattle.sm_history.specs.declared.service.Service.{Service}
use Rattle.sm_history.specs.Rising.{AllAfter, IsRising}
use Rattle.sm_history.proofs.Rising.{is_in, same_bytes, own_bytes, equal_names, apart_names, swapped, turned}
use Rattle.sm_history.proofs.Rising.{head_after, tail_after, more_after, all_after}
use Rattle.sm_history.specs.Rows.{NamedRow, named_row}
use Rattle.sm_history.specs.Tables.{row_in, service_of, names_of, IsNameChanged, IsNamePlace, IsNameGap}

-- A row of a name is not of another.
not_of : (r : NamedRow) (name q : List ℕ) → r.name ≡ name → bytes_eq name q ≡ false → bytes_eq r.name q ≡ false
not_of r name q e f = ap (λ (v : List ℕ). bytes_eq v q) e ∙ f

is_of : (r : NamedRow) (name : List ℕ) → r.name ≡ name → bytes_eq r.name name ≡ true
is_of r name e = ap (λ (v : List ℕ). bytes_eq v name) e ∙ own_bytes name

-- A name before all of the rows has none.
none_after : (rows : List NamedRow) (name : List ℕ) → AllAfter name (names_of rows) → row_in rows name ≡ None
none_after [] name h = refl
none_after (r ∷ rs) name h =
    let apart = swapped name r.name (apart_names name r.name Less (head_after name r.name (names_of rs) h) refl) in
    rw apart (none_after rs name (tail_after name r.name (names_of rs) h))

at_after : (n : List ℕ) (rows : List NamedRow) (i : ℕ) (r : NamedRow) → AllAfter n (names_of rows) → i < length rows
    → slice_cmp nat_cmp n (get_or rows i r).name ≡ Less
at_after n [] i r h lt = absurd (omega (arith, lt))
at_after n (x ∷ xs) zero r h lt = head_after n x.name (names_of xs) h
at_after n (x ∷ xs) (suc i) r h lt = at_after n xs i r (tail_after n x.name (names_of xs) h) (omega (arith, lt))

after_set : (n : List ℕ) (rows : List NamedRow) (i : ℕ) (r : NamedRow) → AllAfter n (names_of rows)
    → slice_cmp nat_cmp n r.name ≡ Less → AllAfter n (names_of (set rows i r))
after_set n [] i r h e = refl
after_set n (x ∷ xs) zero r h e = more_after n r.name (names_of xs) e (tail_after n x.name (names_of xs) h)
after_set n (x ∷ xs) (suc i) r h e =
    more_after n x.name (names_of (set xs i r)) (head_after n x.name (names_of xs) h) (after_set n xs i r
    (tail_after n x.name (names_of xs) h) e)

after_remove : (n : List ℕ) (rows : List NamedRow) (i : ℕ) → AllAfter n (names_of rows)
    → AllAfter n (names_of (remove rows i))
after_remove n [] zero h = refl
after_remove n [] (suc i) h = refl
after_remove n (x ∷ xs) zero h = tail_after n x.name (names_of xs) h
after_remove n (x ∷ xs) (suc i) h =
    more_after n x.name (names_of (remove xs i)) (head_after n x.name (names_of xs) h) (after_remove n xs i
    (tail_after n x.name (names_of xs) h))

after_insert : (n : List ℕ) (rows : List NamedRow) (i : ℕ) (r : NamedRow) → AllAfter n (names_of rows)
    → slice_cmp nat_cmp n r.name ≡ Less → AllAfter n (names_of (insert rows i r))
after_insert n [] zero r h e = more_after n r.name [] e refl
after_insert n [] (suc i) r h e = more_after n r.name [] e refl
after_insert n (x ∷ xs) zero r h e = more_after n r.name (names_of (x ∷ xs)) e h
after_insert n (x ∷ xs) (suc i) r h e =
    more_after n x.name (names_of (insert xs i r)) (head_after n x.name (names_of xs) h) (after_insert n xs i r
    (tail_after n x.name (names_of xs) h) e)

-- Another row before those of which one changed.
cons_changed : (rows rows' : List NamedRow) (r : NamedRow) (name : List ℕ) (o : Option NamedRow)
    → IsNameChanged rows rows' name o
    → bytes_eq r.name name ≡ false → AllAfter r.name (names_of rows') → IsNameChanged (r ∷ rows) (r ∷ rows') name o
cons_changed rows rows' r name o ch apart after = record {
  own = rw apart ch.own;
  other = λ q f. ap (λ (v : Option NamedRow). cond (bytes_eq r.name q) (Some r) v) (ch.other q f);
  rises = (after, ch.rises);
}

-- A row of the name was found.
pub place_here : (rows : List NamedRow) (name : List ℕ) (i : ℕ) → IsRising (names_of rows) → i < length rows
    → ((r : NamedRow) → (get_or rows i r).name ≡ name) → IsNamePlace rows name i
place_here [] name i h lt own = absurd (omega (arith, lt))
place_here (r ∷ rs) name zero h lt own =
    let e = own r in
    record {
      inside = lt;
      here = λ x. rw (is_of r name e) refl;
      own = own;
      written = λ x is. record {
        own = rw (is_of x name is) refl;
        other = λ q f. rw (not_of x name q is f, not_of r name q e f) refl;
        rises = (subst (λ (v : List ℕ). AllAfter v (names_of rs)) (e ∙ sym is) h.0, h.1);
      };
      removed = record {
        own = none_after rs name (subst (λ (v : List ℕ). AllAfter v (names_of rs)) e h.0);
        other = λ q f. rw (not_of r name q e f) refl;
        rises = h.1;
      };
    }
place_here (r ∷ rs) name (suc i) h lt own =
    let lt' : i < length rs = omega (arith, lt) in
    let at = place_here rs name i h.1 lt' own in
    let less : slice_cmp nat_cmp r.name name ≡ Less = subst (λ (v : List ℕ). slice_cmp nat_cmp r.name v
    ≡ Less) (own r) (at_after r.name rs i r h.0 lt') in
    let apart = apart_names r.name name Less less refl in
    record {
      inside = lt;
      here = λ x. rw apart (at.here x);
      own = own;
      written = λ x is. cons_changed rs (set rs i x) r name (Some x) (at.written x is) apart
          (after_set r.name rs i x h.0 (subst (λ (v : List ℕ). slice_cmp nat_cmp r.name v ≡ Less) (sym is) less));
      removed = cons_changed rs (remove rs i) r name None at.removed apart (after_remove r.name rs i h.0);
    }

abbrev Before : List ℕ → NamedRow → Type 0
Before name r = slice_cmp nat_cmp r.name name ≡ Less

abbrev Behind : List ℕ → NamedRow → Type 0
Behind name r = slice_cmp nat_cmp r.name name ≡ Greater

-- No row of the name was found.
pub gap_here : (rows : List NamedRow) (name : List ℕ) (i : ℕ) → IsRising (names_of rows) → i ≤ length rows
    → AllWithin (Before name) rows 0 i → AllWithin (Behind name) rows i (length rows) → IsNameGap rows name i
gap_here [] name zero h le low high = record {
  none = refl;
  inserted = λ x is. record {
    own = rw (is_of x name is) refl;
    other = λ q f. rw (not_of x name q is f) refl;
    rises = (refl, tt);
  };
}
gap_here (r ∷ rs) name zero h le low high =
    let less = turned r.name name (high 0 r (omega arith) (omega arith)) in
    let after = more_after name r.name (names_of rs) less (all_after name r.name (names_of rs) less h.0) in
    record {
      none = none_after (r ∷ rs) name after;
      inserted = λ x is. record {
        own = rw (is_of x name is) refl;
        other = λ q f. rw (not_of x name q is f) refl;
        rises = (subst (λ (v : List ℕ). AllAfter v (names_of (r ∷ rs))) (sym is) after, h);
      };
    }
gap_here [] name (suc i) h le low high = absurd (omega (arith, le))
gap_here (r ∷ rs) name (suc i) h le low high =
    let less = low 0 r (omega arith) (omega arith) in
    let apart = apart_names r.name name Less less refl in
    let gap = gap_here rs name i h.1 (omega (arith, le)) (λ k d a b. low (suc k) d (omega arith) (omega
    (arith, b))) (λ k d a b. high (suc k) d (omega (arith, a)) (omega (arith, b))) in
    record {
      none = rw apart gap.none;
      inserted = λ x is. cons_changed rs (insert rs i x) r name (Some x) (gap.inserted x is) apart
          (after_insert r.name rs i x h.0 (subst (λ (v : List ℕ). slice_cmp nat_cmp r.name v ≡ Less) (sym is) less));
    }

-- ---- bisection

next_after : (rows : List NamedRow) (k : ℕ) (d : NamedRow) → IsRising (names_of rows) → suc k < length rows
    → is_lt (slice_cmp nat_cmp (get_or rows (suc k) d).name (get_or rows k d).name) ≡ false
next_after [] k d h lt = absurd (omega (arith, lt))
next_after (r ∷ []) k d h lt = absurd (omega (arith, lt))
next_after (r ∷ x ∷ xs) zero d h lt = ap is_lt (nat_list_cmp_total.antisymm x.name r.name
    ∙ ap ordering_reverse (head_after r.name x.name (names_of xs) h.0))
next_after (r ∷ x ∷ xs) (suc k) d h lt = next_after (x ∷ xs) k d h.1 (omega (arith, lt))

sorted : (rows : List NamedRow) → IsRising (names_of rows)
    → IsSortedBy (λ (a b : NamedRow). is_lt (slice_cmp nat_cmp a.name b.name)) rows
sorted rows h k d a b = let e = add-one k in
    subst (λ (n : ℕ). is_lt (slice_cmp nat_cmp (get_or rows n d).name (get_or rows k d).name)
    ≡ false) (sym e) (next_after rows k d h (omega (arith, b)))

pub searched : (rows : List NamedRow) (name : List ℕ) (o : Result ℕ ℕ) → IsRising (names_of rows)
    → IsSearchInRange o (length rows) → IsBinarySearchResult (λ (r : NamedRow). slice_cmp nat_cmp r.name name) rows o
    → MatchResult o (IsNamePlace rows name) (IsNameGap rows name)
searched rows name (Ok i) h lt at = place_here rows name i h lt (λ r. equal_names (get_or rows i r).name name (at r))
searched rows name (Err i) h le at =
    let parts = at (searchable_from_sorted nat_list_cmp_total (λ (r : NamedRow). r.name) rows name (sorted rows h)) in
    gap_here rows name i h le parts.0 parts.1

-- ---- rows that stay

-- A row, if it passes a test.
abbrev pub keep : (NamedRow → Bool) → Option NamedRow → Option NamedRow
keep p None = None
keep p (Some r) = if p r then Some r else None

after_kept : (p : NamedRow → Bool) (n : List ℕ) (rows : List NamedRow) → AllAfter n (names_of rows)
    → AllAfter n (names_of (filter p rows))
after_kept p n [] h = refl
after_kept p n (x ∷ xs) h =
    let i = after_kept p n xs (tail_after n x.name (names_of xs) h) in
    elim (p x) as (λ b. AllAfter n (names_of (if b then x ∷ filter p xs else filter p xs)))
    [ true ↦ more_after n x.name (names_of (filter p xs)) (head_after n x.name (names_of xs) h) i | false ↦ i ]

pub rising_kept : (p : NamedRow → Bool) (rows : List NamedRow) → IsRising (names_of rows)
    → IsRising (names_of (filter p rows))
rising_kept p [] h = tt
rising_kept p (x ∷ xs) h =
    let i = rising_kept p xs h.1 in
    elim (p x) as (λ b. IsRising (names_of (if b then x ∷ filter p xs else filter p xs)))
    [ true ↦ (after_kept p x.name xs h.0, i) | false ↦ i ]

kept_case : (p : NamedRow → Bool) (r : NamedRow) (b : Bool) (o : Option NamedRow) → p r ≡ false → (b ≡ true → o ≡ None)
    → keep p o ≡ keep p (cond b (Some r) o)
kept_case p r true o e none = rw (none refl, e) refl
kept_case p r false o e none = refl

pub row_kept : (p : NamedRow → Bool) (rows : List NamedRow) (q : List ℕ) → IsRising (names_of rows)
    → row_in (filter p rows) q ≡ keep p (row_in rows q)
row_kept p [] q h = refl
row_kept p (r ∷ rs) q h =
    let i = row_kept p rs q h.1 in
    elim (p r) as (λ b. p r ≡ b → row_in (if b then r ∷ filter p rs else filter p rs) q ≡ keep p (row_in (r ∷ rs) q)) [
      | true ↦ λ e. elim (bytes_eq r.name q) as (λ t. cond t (Some r) (row_in (filter p rs) q)
          ≡ keep p (cond t (Some r) (row_in rs q))) [ true ↦ rw e refl | false ↦ i ]
      | false ↦ λ e. i ∙ kept_case p r (bytes_eq r.name q) (row_in rs q) e
          (λ f. none_after rs q (subst (λ (v : List ℕ). AllAfter v (names_of rs)) (same_bytes r.name q f) h.0))
    ] refl

-- ---- lists of names

pub in_names : (rows : List NamedRow) (q : List ℕ) → is_in q (names_of rows) ≡ is_some (row_in rows q)
in_names [] q = refl
in_names (r ∷ rs) q =
    elim (bytes_eq r.name q) as (λ b. (b || is_in q (names_of rs))
    ≡ is_some (cond b (Some r) (row_in rs q))) [ true ↦ refl | false ↦ in_names rs q ]

-- A look-up that finds each row's own service.
abbrev Agree : (List ℕ → Option Service) → List NamedRow → Type 0
Agree f [] = Unit {0}
Agree f (r ∷ rs) = (f r.name ≡ Some r.service) × Agree f rs

agree_skip : (f g : List ℕ → Option Service) (n : List ℕ) (rows : List NamedRow) → AllAfter n (names_of rows)
    → ((q : List ℕ) → bytes_eq n q ≡ false → g q ≡ f q) → Agree f rows → Agree g rows
agree_skip f g n [] h same a = tt
agree_skip f g n (r ∷ rs) h same a = (
  same r.name (apart_names n r.name Less (head_after n r.name (names_of rs) h) refl) ∙ a.0,
  agree_skip f g n rs (tail_after n r.name (names_of rs) h) same a.1,
)

agree_own : (rows : List NamedRow) → IsRising (names_of rows) → Agree (λ q. service_of (row_in rows q)) rows
agree_own [] h = tt
agree_own (r ∷ rs) h = (
  rw (own_bytes r.name) refl,
  agree_skip (λ q. service_of (row_in rs q)) (λ q. service_of (row_in (r ∷ rs) q)) r.name rs h.0
      (λ q f. rw f refl) (agree_own rs h.1),
)

agree_same : (f g : List ℕ → Option Service) (rows : List NamedRow) → ((q : List ℕ) → g q ≡ f q) → Agree f rows
    → Agree g rows
agree_same f g [] same a = tt
agree_same f g (r ∷ rs) same a = (same r.name ∙ a.0, agree_same f g rs same a.1)

under_agree : (f : List ℕ → Option Service) (rows : List NamedRow) → Agree f rows
    → rows ≡ filter_map (λ n. option_map (named_row n) (f n)) (names_of rows)
under_agree f [] a = refl
under_agree f (r ∷ rs) a = rw a.0 (ap (λ (l : List NamedRow). r ∷ l) (under_agree f rs a.1))

-- Rows of which each is found by its name are what is found of their names.
pub rows_found : (f : List ℕ → Option Service) (rows : List NamedRow) → IsRising (names_of rows)
    → ((q : List ℕ) → service_of (row_in rows q) ≡ f q)
    → rows ≡ filter_map (λ n. option_map (named_row n) (f n)) (names_of rows)
rows_found f rows h found = under_agree f rows (agree_same (λ q. service_of (row_in rows q)) f rows
    (λ q. sym (found q)) (agree_own rows h))
