-- The places of the rules of a set, but for those that join no source to a target of any.
use Rattle.std.proofs.Common.{inl, inr, ◌≡◌, ℕ, ◌+◌, ◌-◌, ◌<◌, Bool, true, false, ◌&&◌, ◌||◌, eqb, List, [], ◌∷◌}
use Rattle.std.proofs.Common.{◌++◌, length, get_or, Some, refl, sym, ◌∙◌, arith, subst, slice_get, true≢false}
use Rattle.std.proofs.Common.{length-append}
use Rattle.std.proofs.lemmas.Bool.{cases_eq, cases_lt, eqb-true, and_parts, and_from, false_from_ne_true}
use Rattle.std.proofs.lemmas.List.{get_or_append_left, get_or-append_right}
use Rattle.std.proofs.lemmas.Option.{slice_get_read}
use Rattle.sm_bits.specs.Bits.{has, row}
use Rattle.sm_rules.specs.declared.kept.Kept.{Kept}
use Rattle.sm_rules.specs.Keeping.{joins}
use Rattle.sm_matrices.specs.Matrices.{perm_set, HaveTargets}
use Rattle.sm_neverallow.specs.Hitting.{Misses, Escapes, Chosen}
use Rattle.sm_neverallow.proofs.Meeting.{some_same}

-- ---- a rule that joins no source to a target of any

pub escapes_miss : (rows : List (List ℕ)) (count : ℕ) (targets : List ℕ) (rule : Kept) → HaveTargets rows count targets
    → Escapes targets rule → Misses rows count rule
escapes_miss rows count targets rule have escapes = record {
  misses = λ s t inside. false_from_ne_true (has (row rows s) t && joins s t rule) (λ e.
      let parts = and_parts (has (row rows s) t) (joins s t rule) e in
      let both = and_parts (has rule.sources s) (has rule.targets t || (rule.to_self && eqb s t)) parts.1 in
      by s t (have.all s t inside parts.0) both.0 (has rule.targets t) refl both.1);
}
  where
    by : (s t : ℕ) → has targets t ≡ true → has rule.sources s ≡ true → (b : Bool)
        → has rule.targets t ≡ b → (b || (rule.to_self && eqb s t)) ≡ true → ⊥
    by s t there source true target or =
        true≢false (sym (and_from (has rule.targets t) (has targets t) target there) ∙ escapes.misses t)
    by s t there source false target or =
        let itself = and_parts rule.to_self (eqb s t) or in
        let same : t ≡ s = sym (eqb-true s t itself.1) in
        let mine : has targets s ≡ true = rw same at there in
        true≢false (sym (and_from rule.to_self (has targets s && has rule.sources s) itself.0
        (and_from (has targets s) (has rule.sources s) mine source)) ∙ escapes.alone.misses s)

-- ---- the places, one after the other

pub chosen_none : (rules : List Kept) (set : ℕ) (Miss : Kept → Type 0) → Chosen rules set 0 Miss []
chosen_none rules set Miss = record {
  below = λ k h. absurd (omega arith);
  of_set = λ k rule h at. absurd (omega arith);
  all = λ m rule h at same. absurd (omega arith);
  rising = λ j k less h. absurd (omega arith);
}

place_old : (places : List ℕ) (place k : ℕ) → k < length places → get_or (places ++ place ∷ []) k 0 ≡ get_or places k 0
place_old places place k h = get_or_append_left places (place ∷ []) 0 k h

place_new : (places : List ℕ) (place k : ℕ) → k ≡ length places → get_or (places ++ place ∷ []) k 0 ≡ place
place_new places place k h = get_or-append_right places (place ∷ []) (length places) k 0 refl (omega arith)
    ∙ (let z : k - length places ≡ 0 = omega arith in rw z refl)

-- The rule at a place is the one that was read there.
is_read : (rules : List Kept) (n m : ℕ) (x rule : Kept) → n < length rules → x ≡ get_or rules n x → m ≡ n
    → slice_get rules m ≡ Some rule → x ≡ rule
is_read rules n m x rule h is same found =
    some_same x rule (sym (slice_get_read rules (length rules) n x refl h is) ∙ (rw same at found))

pub chosen_more : (rules : List Kept) (set n : ℕ) (Miss : Kept → Type 0) (places new : List ℕ) (x : Kept)
    → new ≡ places ++ n ∷ [] → n < length rules → x ≡ get_or rules n x → perm_set x ≡ set
    → Chosen rules set n Miss places → Chosen rules set (n + 1) Miss new
chosen_more rules set n Miss places new x is h at this before = rw is (record {
  below = λ k small. elim (cases_lt k (length places)) [
    | inl old ↦ rw (place_old places n k old) (omega (arith, before.below k old))
    | inr end ↦ (let e : k ≡ length places = omega (arith, length-append places (n ∷ []), small) in
        rw (place_new places n k e) (omega arith))
  ];
  of_set = λ k rule small found. elim (cases_lt k (length places)) [
    | inl old ↦ before.of_set k rule old (rw (place_old places n k old) at found)
    | inr end ↦ (let e : k ≡ length places = omega (arith, length-append places (n ∷ []), small) in
        let same : x ≡ rule =
        is_read rules n (get_or (places ++ n ∷ []) k 0) x rule h at (place_new places n k e) found in
        subst (λ (r : Kept). perm_set r ≡ set) same this)
  ];
  all = λ m rule low found same. elim (cases_eq m n) [
    | inl e ↦ inl (
      length places,
      omega (arith, length-append places (n ∷ [])),
      place_new places n (length places) refl ∙ sym e,
    )
    | inr other ↦ elim (before.all m rule (omega arith) found same) [
      | inl k ↦ inl (
        k.0,
        omega (arith, length-append places (n ∷ []), k.1),
        place_old places n k.0 k.1 ∙ k.2,
      )
      | inr miss ↦ inr miss
    ]
  ];
  rising = λ j k less small.
      let old : j < length places = omega (arith, length-append places (n ∷ []), small, less) in
      elim (cases_lt k (length places)) [
        | inl in_old ↦ rw (place_old places n j old, place_old places n k in_old) (before.rising j k less in_old)
        | inr end ↦ (let e : k ≡ length places = omega (arith, length-append places (n ∷ []), small) in
            rw (place_old places n j old, place_new places n k e) (before.below j old))
      ];
})

pub chosen_same : (rules : List Kept) (set n : ℕ) (Miss : Kept → Type 0) (places : List ℕ) (x : Kept)
    → n < length rules → x ≡ get_or rules n x → (perm_set x ≡ set → Miss x)
    → Chosen rules set n Miss places → Chosen rules set (n + 1) Miss places
chosen_same rules set n Miss places x h at skipped before = record {
  below = λ k small. omega (arith, before.below k small);
  of_set = before.of_set;
  all = λ m rule low found same. elim (cases_eq m n) [
    | inl e ↦ (let it : x ≡ rule = is_read rules n m x rule h at e found in
        inr (subst Miss it (skipped (subst (λ (r : Kept). perm_set r ≡ set) (sym it) same))))
    | inr other ↦ before.all m rule (omega arith) found same
  ];
  rising = before.rising;
}
