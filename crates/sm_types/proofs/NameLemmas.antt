-- Lists of distinct names.
use Rattle.std.proofs.Common.{inl, inr, ◌≡◌, ℕ, ◌+◌, ◌-◌, ◌<◌, Bool, true, false, List, [], ◌∷◌, ◌++◌, length, get_or}
use Rattle.std.proofs.Common.{Option, Some, None, refl, sym, ap, ◌∙◌, arith, not, slice_get, position, is_some}
use Rattle.std.proofs.Common.{true≢false, length-append}
use Rattle.std.specs.List.{list_any, prefix_len}
use Rattle.std.specs.Str.{bytes_eq}
use Rattle.std.proofs.lemmas.Bool.{cases_eq, cases_lt, lt-ltb, eq-eqb, ne_eqb, false_from_ne_true}
use Rattle.std.proofs.lemmas.List.{get_or_append_left, get_or-append_right}
use Rattle.std.proofs.lemmas.List.Folds.{list_any_at}
use Rattle.std.proofs.lemmas.List.Quantifiers.{position-Some}
use Rattle.std.proofs.lemmas.List.Sums.{prefix_len_is}
use Rattle.std.proofs.lemmas.Option.{get_or_from_slice_get, slice_get-get_or, slice_get_within}
use Rattle.std.proofs.lemmas.Slice.Eq.{bytes_eq-Decides}
use Rattle.sm_types.specs.Names.{Name, at, Distinct, is_at}

pub same_name : (a b : Name) → bytes_eq a b ≡ true → a ≡ b
same_name a b h = (bytes_eq-Decides a b).0 h

pub name_same : (a b : Name) → a ≡ b → bytes_eq a b ≡ true
name_same a b h = (bytes_eq-Decides a b).1 h

pub absent_at : {X : Type 0} (p : X → Bool) (xs : List X) (j : ℕ) (d : X) → list_any p xs ≡ false → j < length xs
    → p (get_or xs j d) ≡ false
absent_at p xs j d none h = false_from_ne_true (p (get_or xs j d))
    (λ t. true≢false (sym (list_any_at p xs j d h t) ∙ none))

at_old : (xs : List Name) (n : Name) (i : ℕ) → i < length xs → at (xs ++ n ∷ []) i ≡ at xs i
at_old xs n i h = get_or_append_left xs (n ∷ []) [] i h

at_new : (xs : List Name) (n : Name) (i : ℕ) → i ≡ length xs → at (xs ++ n ∷ []) i ≡ n
at_new xs n i h = get_or-append_right xs (n ∷ []) (length xs) i [] refl (omega arith)
    ∙ (let z : i - length xs ≡ 0 = omega arith in rw z refl)

pub distinct_more : (xs : List Name) (n : Name) → Distinct xs → list_any (bytes_eq n) xs ≡ false
    → Distinct (xs ++ n ∷ [])
distinct_more xs n before none i j h g e =
    let hi : i < length xs + 1 = omega (arith, length-append xs (n ∷ []), h) in
    let gi : j < length xs + 1 = omega (arith, length-append xs (n ∷ []), g) in
    elim (cases_lt i (length xs)) [
      | inl a ↦ elim (cases_lt j (length xs)) [
        | inl b ↦ before i j a b (rw (at_old xs n i a, at_old xs n j b) at e)
        | inr b ↦ (let je : j ≡ length xs = omega arith in
            let s : at xs i ≡ n = same_name (at xs i) n (rw (at_old xs n i a, at_new xs n j je) at e) in
            absurd (true≢false (sym (name_same n (at xs i) (sym s)) ∙ absent_at (bytes_eq n) xs i [] none a)))
      ]
      | inr a ↦ (let ie : i ≡ length xs = omega arith in
          elim (cases_lt j (length xs)) [
            | inl b ↦ absurd (true≢false (sym (rw (at_new xs n i ie, at_old xs n j b) at e)
                ∙ absent_at (bytes_eq n) xs j [] none b))
            | inr b ↦ omega arith
          ])
    ]

pub only_at : (names : List Name) (name : Name) (r : Option ℕ) → Distinct names → position (bytes_eq name) names ≡ r
    → is_some r ≡ list_any (bytes_eq name) names
    → (j : ℕ) → j < length names → bytes_eq name (at names j) ≡ is_at r j
only_at names name (Some k) distinct found any j h =
    let p = position-Some (bytes_eq name) names k [] found in
    let e : name ≡ at names k = same_name name (at names k) p.1 in
    elim (cases_eq j k) [
      | inl same ↦ (let t : bytes_eq name (at names j) ≡ true = rw same p.1 in t ∙ sym (eq-eqb j k same))
      | inr other ↦ (let f : bytes_eq name (at names j) ≡ false =
          false_from_ne_true (bytes_eq name (at names j))
          (λ t. other (distinct j k h p.0 (name_same (at names j) (at names k)
          (sym (same_name name (at names j) t) ∙ e)))) in
          f ∙ sym (ne_eqb j k other))
    ]
only_at names name None distinct found any j h = absent_at (bytes_eq name) names j [] (sym any) h

-- The name at the place of a name.
pub named_at : (names : List Name) (name : Name) (k : ℕ) → position (bytes_eq name) names ≡ Some k
    → slice_get names k ≡ Some name
named_at names name k found =
    let p = position-Some (bytes_eq name) names k [] found in
    rw (slice_get-get_or names k [] p.0) (ap (λ (n : Name). Some n) (sym (same_name name (at names k) p.1)))

-- The place of the name at a place.
pub place_of : (names : List Name) (name : Name) (i : ℕ) → Distinct names → slice_get names i ≡ Some name
    → position (bytes_eq name) names ≡ Some i
place_of names name i distinct found =
    let inside : i < length names = slice_get_within names i name found in
    let here : bytes_eq name (at names i) ≡ true =
    name_same name (at names i) (sym (get_or_from_slice_get names i name [] found)) in
    let before : (k : ℕ) → k < i → not (bytes_eq name (at names k)) ≡ true = λ k h.
    ap not (false_from_ne_true (bytes_eq name (at names k)) (λ t.
    let same : k ≡ i = distinct k i (omega arith) inside
    (name_same (at names k) (at names i) (sym (same_name name (at names k) t) ∙ same_name name (at names i) here))
    in
    absurd (omega arith))) in
    let e : prefix_len (λ x. not (bytes_eq name x)) names ≡ i =
    prefix_len_is (λ x. not (bytes_eq name x)) names i [] (omega arith) before (λ h. ap not here) in
    rw (e, lt-ltb i (length names) inside) refl
