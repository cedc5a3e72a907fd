-- Rows of clients of any type: the index of a row, and the rows after a change of one.
use Rattle.std.proofs.Common.{◌≡◌, ℕ, ◌<◌, Bool, true, false, ◌==◌, List, [], ◌∷◌, ◌++◌, refl, ap, sym, ◌∙◌, subst}
use Rattle.std.proofs.Common.{length, get_or, set, cond, Option, Some, None, if◌then◌else◌, arith}
use Rattle.std.specs.Prelude.{nat_lt, not, filter, position, slice_get, is_some, MatchOption}
use Rattle.std.specs.List.{find, position_or_len}
use Rattle.std.specs.Option.{option_or}
use Rattle.std.proofs.lemmas.Bool.{true≢false}
use Rattle.std.proofs.lemmas.Bool.Decides.{nat_tests}
use Rattle.std.proofs.lemmas.List.Folds.{find_at, find-set, find_past, find-append}
use Rattle.std.proofs.lemmas.List.Quantifiers.{position-Some}
use Rattle.sm_history.specs.Tables.{IsChanged, IsFound, IsPlace}
use Rattle.sm_history.proofs.Balanced.{number_same}
use Rattle.std.proofs.lemmas.Option.{slice_get-get_or, slice_get_past}

pub self_same : (a : ℕ) → (a == a) ≡ true
self_same a = grind (arith, nat_tests)

-- What holds of one client, and of each other one.
pub by_client : (P : ℕ → Type 0) (c : ℕ) → P c → ((k : ℕ) → (c == k) ≡ false → P k) → (k : ℕ) → P k
by_client P c own other k = elim (c == k) as (λ b. (c == k) ≡ b → P k)
    [ true ↦ λ e. subst P (number_same c k e) own | false ↦ λ e. other k e ] refl

first_at : {R : Type 0} (p : R → Bool) (rows : List R) (i : ℕ) → position p rows ≡ Some i
    → (i ≡ position_or_len p rows) × (i < length rows)
first_at p rows i h =
    elim (nat_lt (position_or_len p rows) (length rows)) as (λ b. nat_lt (position_or_len p rows) (length rows) ≡ b →
    (let o : Option ℕ = cond b (Some (position_or_len p rows)) None in o) ≡ Some i →
    (i ≡ position_or_len p rows) × (i < length rows)) [
      | true ↦ λ e f. let at : position_or_len p rows ≡ i = cc in (sym at, grind (arith, nat_tests))
      | false ↦ λ e f. cc
    ] refl h

not_of : (a c k : ℕ) → a ≡ c → (c == k) ≡ false → (a == k) ≡ false
not_of a c k e f = ap (λ v. v == k) e ∙ f

or_none : {R : Type 0} (o : Option R) → option_or o None ≡ o
or_none None = refl
or_none (Some r) = refl

-- A row is of client c. `key` is the client of a row.
abbrev is_of : {R : Type 0} → (R → ℕ) → ℕ → R → Bool
is_of key c r = key r == c

-- This is the first row of a client.
abbrev first_of : {R : Type 0} → (R → ℕ) → List R → ℕ → Option R
first_of key rows c = find (is_of key c) rows

module _ {R : Type 0} (key : R → ℕ) where
  pub no_row : (rows : List R) (c : ℕ) → position (is_of key c) rows ≡ None → first_of key rows c ≡ None
  no_row rows c h =
      elim (nat_lt (position_or_len (is_of key c) rows) (length rows)) as (λ b.
      nat_lt (position_or_len (is_of key c) rows) (length rows) ≡ b
      → (let o : Option ℕ = cond b (Some (position_or_len (is_of key c) rows)) None in o) ≡ None →
      first_of key rows c ≡ None) [
        | true ↦ λ e f. cc
        | false ↦ λ e f. find_at (is_of key c) rows ∙ slice_get_past rows (position_or_len (is_of key c) rows)
            (grind (arith, nat_tests))
      ] refl h

  -- A row that was found.
  pub is_place : (rows : List R) (c i : ℕ) → position (is_of key c) rows ≡ Some i → IsPlace key rows c i
  is_place rows c i h =
      let w = first_at (is_of key c) rows i h in
      let own : (r : R) → key (get_or rows i r) ≡ c =
      λ r. number_same (key (get_or rows i r)) c (position-Some (is_of key c) rows i r h).1 in
      record {
        inside = w.1;
        here = λ r. find_at (is_of key c) rows ∙ ap (slice_get rows) (sym w.0) ∙ slice_get-get_or rows i r w.1;
        own = own;
        written = λ r is. record {
          own = find-set (is_of key c) rows i r w.0 w.1 (ap (λ v. v == c) is ∙ self_same c);
          other = λ k f. find_past (is_of key k) rows i r r (not_of (key (get_or rows i r)) c k (own r) f)
              (not_of (key r) c k is f);
        };
      }

  pub by_position : (rows : List R) (c : ℕ) (o : Option ℕ) → o ≡ position (is_of key c) rows
      → MatchOption o (first_of key rows c ≡ None) (IsPlace key rows c)
  by_position rows c None e = no_row rows c (sym e)
  by_position rows c (Some i) e = is_place rows c i (sym e)

  pub found : (rows : List R) (c : ℕ) (o : Option ℕ) → o ≡ position (is_of key c) rows → IsFound key rows c o
  found rows c None e = no_row rows c (sym e)
  found rows c (Some i) e = let at = is_place rows c i (sym e) in (at.inside, at.own)

  -- What was read at a client's place is its row.
  pub row_read : (rows : List R) (c i : ℕ) (r : R) → IsPlace key rows c i → r ≡ get_or rows i r
      → first_of key rows c ≡ Some r
  row_read rows c i r at e = at.here r ∙ ap (λ x. Some x) (sym e)

  pub row_pushed : (rows : List R) (r : R) → first_of key rows (key r) ≡ None
      → IsChanged key rows (rows ++ r ∷ []) (key r) (Some r)
  row_pushed rows r none = record {
    own = find-append (is_of key (key r)) rows (r ∷ []) ∙ rw (none, self_same (key r)) refl;
    other = λ k f. find-append (is_of key k) rows (r ∷ []) ∙ rw f (or_none (first_of key rows k));
  }

  none_left : (rows : List R) (c : ℕ) → first_of key (filter (λ r. not (key r == c)) rows) c ≡ None
  none_left [] c = refl
  none_left (r ∷ rs) c =
      elim (key r == c) as (λ b. (key r == c) ≡ b →
      first_of key (if not b then r ∷ filter (λ x. not (key x == c)) rs else filter (λ x. not (key x == c)) rs) c
      ≡ None) [
        | true ↦ λ e. none_left rs c
        | false ↦ λ e. rw e (none_left rs c)
      ] refl

  others_left : (rows : List R) (c k : ℕ) → (c == k) ≡ false
      → first_of key (filter (λ r. not (key r == c)) rows) k ≡ first_of key rows k
  others_left [] c k f = refl
  others_left (r ∷ rs) c k f =
      elim (key r == c) as (λ b. (key r == c) ≡ b →
      first_of key (if not b then r ∷ filter (λ x. not (key x == c)) rs else filter (λ x. not (key x == c)) rs) k
      ≡ first_of key (r ∷ rs) k) [
        | true ↦ λ e. rw (not_of (key r) c k (number_same (key r) c e) f) (others_left rs c k f)
        | false ↦ λ e. ap (λ (o : Option R). cond (key r == k) (Some r) o) (others_left rs c k f)
      ] refl

  pub row_gone : (rows : List R) (c : ℕ) → IsChanged key rows (filter (λ r. not (key r == c)) rows) c None
  row_gone rows c = record { own = none_left rows c; other = others_left rows c }

  -- Another row was written at a client's place.
  pub row_written : (rows : List R) (c i : ℕ) (r r' : R) → IsPlace key rows c i → r ≡ get_or rows i r
      → key r' ≡ key r → IsChanged key rows (set rows i r') c (Some r')
  row_written rows c i r r' at e same = at.written r' (same ∙ ap (λ (x : R). key x) e ∙ at.own r)

  -- The place of a row was sought.
  pub sought : (rows : List R) (c : ℕ) (o : Option ℕ)
      → MatchOption o (first_of key rows c ≡ None) (IsPlace key rows c) → is_some o ≡ is_some (first_of key rows c)
  sought rows c None none = sym (ap (λ (o : Option R). is_some o) none)
  sought rows c (Some i) at = elim (first_of key rows c) as (λ o. first_of key rows c ≡ o → true ≡ is_some o) [
    | None ↦ λ e. elim rows as (λ rs. IsPlace key rs c i → first_of key rs c ≡ None → true ≡ false) [
      | [] ↦ λ a f. absurd (let lt = a.inside in omega (arith, lt))
      | r ∷ rs ↦ λ a f. let there = a.here r in cc
    ] at e
    | Some r ↦ λ e. refl
  ] refl

  pub none_sought : (rows : List R) (c : ℕ) (o : Option ℕ)
      → MatchOption o (first_of key rows c ≡ None) (IsPlace key rows c) → is_some o ≡ false → first_of key rows c ≡ None
  none_sought rows c None none e = none
  none_sought rows c (Some i) at e = absurd (true≢false e)
