-- Rows of which no two are one client's.
use Rattle.std.proofs.Common.{◌≡◌, ℕ, zero, suc, ◌<◌, Bool, true, false, ◌==◌, List, [], ◌∷◌, ◌++◌, refl, ap, ◌∙◌}
use Rattle.std.proofs.Common.{◌||◌, length, get_or, set, map, cond, Option, Some, None, if◌then◌else◌, arith}
use Rattle.std.specs.Prelude.{filter, MatchOption}
use Rattle.std.specs.List.{find, list_any, position_or_len}
use Rattle.std.proofs.lemmas.Bool.{or_parts}
use Rattle.std.proofs.lemmas.Bool.Decides.{nat_tests}
use Rattle.sm_history.specs.Once.{is_once}
use Rattle.sm_history.specs.Sound.{IsOnce}
use Rattle.sm_history.specs.Tables.{IsFound, IsPlace}
use Rattle.sm_history.proofs.Sound.{once_filter, once_more}
use Rattle.sm_history.proofs.ClientRows.{is_place, self_same}
use Rattle.sm_history.proofs.Once.{to_once, from_once}

-- ---- rows

module _ {R : Type 0} (key : R → ℕ) where
  -- What isn't among the clients is no row's.
  pub other_row : (rows : List R) (c k i : ℕ) (r : R) → list_any (λ y. y == k) (map key rows) ≡ false → i < length rows
      → key (get_or rows i r) ≡ c → (k == c) ≡ false
  other_row [] c k i r none lt own = absurd (omega arith)
  other_row (x ∷ xs) c k zero r none lt own =
      let p = or_parts (key x == k) (list_any (λ y. y == k) (map key xs)) none in
      let f = p.0 in
      grind (arith, nat_tests)
  other_row (x ∷ xs) c k (suc i) r none lt own =
      other_row xs c k i r (or_parts (key x == k) (list_any (λ y. y == k) (map key xs)) none).1 (omega arith) own

  first_place : (rows : List R) (c i : ℕ) (r : R) → IsOnce (map key rows) → i < length rows
      → key (get_or rows i r) ≡ c → position_or_len (λ x. key x == c) rows ≡ i
  first_place [] c i r once lt own = absurd (omega arith)
  first_place (x ∷ xs) c zero r once lt own = rw (own, self_same c) refl
  first_place (x ∷ xs) c (suc i) r once lt own =
      let rest = first_place xs c i r once.1 (omega arith) own in
      rw (other_row xs c (key x) i r once.0 (omega arith) own) (omega (arith, rest))

  -- A row that was found anywhere.
  place_once : (rows : List R) (c i : ℕ) → is_once (map key rows) ≡ true → i < length rows
      → ((r : R) → key (get_or rows i r) ≡ c) → IsPlace key rows c i
  place_once [] c i once lt own = absurd (omega arith)
  place_once (x ∷ xs) c i once lt own =
      let at = first_place (x ∷ xs) c i x (to_once (map key (x ∷ xs)) once) lt (own x) in
      is_place key (x ∷ xs) c i (rw at grind (arith, nat_tests))

  pub placed : (rows : List R) (c : ℕ) (o : Option ℕ) → is_once (map key rows) ≡ true → IsFound key rows c o
      → MatchOption o (find (λ r. key r == c) rows ≡ None) (IsPlace key rows c)
  placed rows c None once none = none
  placed rows c (Some i) once at = place_once rows c i once at.0 at.1

  -- ---- the rows of a table that changes

  no_other : (rows : List R) (c : ℕ) → find (λ r. key r == c) rows ≡ None
      → list_any (λ y. y == c) (map key rows) ≡ false
  no_other [] c none = refl
  no_other (x ∷ xs) c none = elim (key x == c) as (λ b. (key x == c) ≡ b → cond b (Some x) (find (λ r. key r == c) xs) ≡ None
      → (b || list_any (λ y. y == c) (map key xs)) ≡ false) [
        | true ↦ λ e f. cc
        | false ↦ λ e f. no_other xs c f
      ] refl none

  map_more : (rows : List R) (r : R) → map key (rows ++ r ∷ []) ≡ map key rows ++ key r ∷ []
  map_more [] r = refl
  map_more (x ∷ xs) r = ap (λ ys. key x ∷ ys) (map_more xs r)

  pub once_pushed : (rows : List R) (r : R) → find (λ x. key x == key r) rows ≡ None → is_once (map key rows) ≡ true
      → is_once (map key (rows ++ r ∷ [])) ≡ true
  once_pushed rows r none once = rw (map_more rows r)
      (from_once _ (once_more (key r) (map key rows) (no_other rows (key r) none) (to_once (map key rows) once)))

  map_written : (rows : List R) (i : ℕ) (r' : R) (d : R) → key r' ≡ key (get_or rows i d)
      → map key (set rows i r') ≡ map key rows
  map_written [] i r' d e = refl
  map_written (x ∷ xs) zero r' d e = ap (λ v. v ∷ map key xs) e
  map_written (x ∷ xs) (suc i) r' d e = ap (λ ys. key x ∷ ys) (map_written xs i r' d e)

  pub once_written : (rows : List R) (i : ℕ) (r r' : R) → r ≡ get_or rows i r → key r' ≡ key r
      → is_once (map key rows) ≡ true → is_once (map key (set rows i r')) ≡ true
  once_written rows i r r' at same once = rw (map_written rows i r' r (same ∙ ap key at)) once

  map_left : (rows : List R) (p : ℕ → Bool) → map key (filter (λ r. p (key r)) rows) ≡ filter p (map key rows)
  map_left [] p = refl
  map_left (x ∷ xs) p = elim (p (key x)) as (λ b. map key (if b then x ∷ filter (λ r. p (key r)) xs else filter (λ r. p (key r)) xs)
      ≡ (if b then key x ∷ filter p (map key xs) else filter p (map key xs))) [
        | true ↦ ap (λ ys. key x ∷ ys) (map_left xs p)
        | false ↦ map_left xs p
      ]

  pub once_left : (rows : List R) (p : ℕ → Bool) → is_once (map key rows) ≡ true
      → is_once (map key (filter (λ r. p (key r)) rows)) ≡ true
  once_left rows p once = rw (map_left rows p) (from_once _ (once_filter p (map key rows) (to_once (map key rows) once)))
