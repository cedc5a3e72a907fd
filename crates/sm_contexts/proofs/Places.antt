-- The entry at the index of a label.
use Rattle.std.proofs.Common.{inl, inr, ◌≡◌, ◌⊎◌, ℕ, ◌<◌, ◌≤◌, Bool, true, false, cond, List, [], ◌∷◌, length, Option}
use Rattle.std.proofs.Common.{None, Some}
use Rattle.std.proofs.Common.{refl, ap, ◌∙◌, arith}
use Rattle.std.specs.Prelude.{◌||◌, find, get_or, nat_lt, option_map, position, slice_get}
use Rattle.std.specs.List.{list_any, position_or_len}
use Rattle.std.specs.Option.{option_or}
use Rattle.std.proofs.lemmas.Bool.{cases_lt, false≢true, lt-ltb}
use Rattle.std.proofs.lemmas.List.Folds.{find_at}
use Rattle.std.proofs.lemmas.Option.{slice_get_cases, slice_get_past}
use Rattle.sm_contexts.specs.Reading.{Entry, has_key, default_key, label, label_place}
use borrow.Author.Tests.{ltb-true}

-- The first that passes is at the first index.
first_place : {A : Type 0} (p : A → Bool) (xs : List A) (i : ℕ) → position p xs ≡ Some i
    → (find p xs ≡ slice_get xs i) × (i < length xs)
first_place p xs i found = by (nat_lt (position_or_len p xs) (length xs)) refl found where
  by : (b : Bool) → nat_lt (position_or_len p xs) (length xs) ≡ b
      → cond b (Some (position_or_len p xs)) None ≡ Some i → (find p xs ≡ slice_get xs i) × (i < length xs)
  by true lt h =
      let is : position_or_len p xs ≡ i = cc in
      (find_at p xs ∙ ap (slice_get xs) is, rw is at (ltb-true _ _ lt))
  by false lt h = absurd cc

-- What has no place isn't found.
no_place : {A : Type 0} (p : A → Bool) (xs : List A) → position p xs ≡ None → find p xs ≡ None
no_place p xs none = by (cases_lt (position_or_len p xs) (length xs)) where
  by : ((position_or_len p xs < length xs) ⊎ (length xs ≤ position_or_len p xs)) → find p xs ≡ None
  by (inl lt) = absurd (cc (rw (lt-ltb _ _ lt) at none))
  by (inr past) = find_at p xs ∙ slice_get_past xs (position_or_len p xs) past

-- The first that passes, at its place.
there : {A : Type 0} (p : A → Bool) (xs : List A) (i : ℕ) → position p xs ≡ Some i
    → (x : A) × (slice_get xs i ≡ Some x) × (find p xs ≡ Some x)
there {A = A} p xs i found = by (slice_get_cases xs i).1 where
  first : (find p xs ≡ slice_get xs i) × (i < length xs)
  first = first_place p xs i found

  by : (((x : A) × (i < length xs) × (slice_get xs i ≡ Some x) × (get_or xs i x ≡ x))
      ⊎ ((length xs ≤ i) × (slice_get xs i ≡ None)))
      → (x : A) × (slice_get xs i ≡ Some x) × (find p xs ≡ Some x)
  by (inl at) = (at.0, at.2, first.0 ∙ at.2)
  by (inr past) = absurd (omega (arith, past.0, first.1))

-- Where one passes, one has a place.
found_cases : {A : Type 0} (b rest : Bool) (x : A) (o : Option A) → (rest ≡ true → o ≡ None → ⊥) → (b || rest) ≡ true
    → cond b (Some x) o ≡ None → ⊥
found_cases true rest x o hence h e = absurd cc
found_cases false rest x o hence h e = hence h e

found : {A : Type 0} (p : A → Bool) (xs : List A) → list_any p xs ≡ true → find p xs ≡ None → ⊥
found p [] h e = false≢true h
found p (x ∷ xs) h e = found_cases (p x) (list_any p xs) x (find p xs) (found p xs) h e

pub default_placed : (entries : List Entry) → list_any (has_key default_key) entries ≡ true
    → position (has_key default_key) entries ≡ None → ⊥
default_placed entries has none =
    found (has_key default_key) entries has (no_place (has_key default_key) entries none)

-- The label of a name is the context at its place.
pub label_at : (entries : List Entry) (name : List ℕ) (i : ℕ) → label_place entries name ≡ Some i
    → (e : Entry) × (slice_get entries i ≡ Some e) × (label entries name ≡ Some e.context)
label_at entries name i placed = by (position (has_key name) entries) refl placed where
  by : (o : Option ℕ) → position (has_key name) entries ≡ o
      → option_or o (position (has_key default_key) entries) ≡ Some i
      → (e : Entry) × (slice_get entries i ≡ Some e) × (label entries name ≡ Some e.context)
  by (Some j) own h =
      let is : position (has_key name) entries ≡ Some i = own ∙ h in
      let e = there (has_key name) entries i is in
      (e.0, e.1, rw e.2 refl)
  by None own h =
      let e = there (has_key default_key) entries i h in
      (e.0, e.1, rw (no_place (has_key name) entries own, e.2) refl)

pub labelled : (entries : List Entry) (name : List ℕ) (i : ℕ) → label_place entries name ≡ Some i
    → option_map (λ e. e.context) (slice_get entries i) ≡ label entries name
labelled entries name i placed = let e = label_at entries name i placed in rw (e.1, e.2) refl
