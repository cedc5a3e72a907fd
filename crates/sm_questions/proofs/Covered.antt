-- Rules that cover something that a filter leaves, by number and by name.
use Rattle.std.proofs.Common.{◌≡◌, ◌∙◌, ℕ, zero, suc, ◌<◌, Bool, true, false, ◌&&◌, List, [], ◌∷◌, length}
use Rattle.std.proofs.Common.{get_or, refl, sym, inl, inr, arith, true≢false}
use Rattle.std.specs.Prelude.{IsTrue}
use Rattle.std.specs.List.{list_any}
use Rattle.std.proofs.lemmas.Bool.{cases_lt}
use Rattle.std.proofs.lemmas.Bool.Decides.{nat_tests}
use Rattle.std.proofs.lemmas.List.Folds.{list_any_at}
use Rattle.sm_bits.specs.Bits.{has, has_bit}
use Rattle.sm_ruletext.specs.declared.rule.Rule.{Rule}
use Rattle.sm_types.specs.Names.{at}
use Rattle.sm_types.specs.Denoting.{types}
use Rattle.sm_rules.specs.Keeping.{joins, FitsRule, Says}
use Rattle.sm_rules.specs.declared.kept.Kept.{Kept}
use Rattle.sm_policy.specs.Policy.{Policy}
use Rattle.sm_questions.specs.Accesses.{perm_numbers}
use Rattle.sm_questions.specs.Covering.{AreLeft, grants_at, joins_at}
use Rattle.sm_questions.specs.RuleLines.{covers_left, covers_some}
use Rattle.sm_questions.specs.declared.filtering.Filter.{Filter}
use Rattle.sm_questions.specs.declared.left.Left.{Left}

none_any : {A : Type 0} (p : A → Bool) (xs : List A) (d : A)
    → ((i : ℕ) → i < length xs → p (get_or xs i d) ≡ false) → list_any p xs ≡ false
none_any p [] d h = refl
none_any p (x ∷ xs) d h = rw (h zero (omega arith)) (none_any p xs d (λ i lt. h (suc i) (omega arith)))

number_there : (b : ℕ) → b < 7 → get_or perm_numbers b 0 ≡ b
number_there b lt = grind arith

swapped : (s t j p k : Bool) → ((s && t) && (p && (j && k))) ≡ (((s && t) && j) && (p && k))
swapped true true true p k = refl
swapped true true false true k = refl
swapped true true false false k = refl
swapped true false j p k = refl
swapped false t j p k = refl

-- A rule joins only types.
joined : (n s t : ℕ) (k : Kept) → FitsRule n k → joins s t k ≡ true → (s < n) × (t < n)
joined n s t k fits h = elim (cases_lt s n) [
  | inl hs ↦ elim (cases_lt t n) [
    | inl ht ↦ (hs, ht)
    | inr past ↦ (let none = fits.targets_past t past in absurd (grind (arith, nat_tests, none, h, hs)))
  ]
  | inr past ↦ (let none = fits.sources_past s past in absurd (grind (arith, nat_tests, none, h)))
]

both : (a b : Bool) → (a && b) ≡ true → (a ≡ true) × (b ≡ true)
both true true h = (refl, refl)
both true false h = absurd (true≢false (sym h))
both false b h = absurd (true≢false (sym h))

module _ (policy : Policy) (accesses : Filter) (left : Left) (r : ℕ × Rule) (k : Kept)
    (is : AreLeft policy accesses left) (said : Says policy.statements (types policy.statements) r k)
    (fits : FitsRule (length (types policy.statements)) k) where
  -- One access is left and covered by number as by name.
  same_at : (b s t : ℕ) → b < 7 → s < length (types policy.statements) → t < length (types policy.statements)
      → covers_left policy.statements accesses r.1 (at (types policy.statements) s) (at (types policy.statements) t) b
      ≡ (joins_at left k s t && grants_at left k b)
  unfolding covers_left
  same_at b s t low hs ht =
      rw (← is.sources s hs, ← is.targets t ht, ← is.perms, ← said.covers b s t low hs ht)
      (swapped (has left.sources s) (has left.targets t) (joins s t k) (has_bit left.perms.0 b) (has_bit k.perms.0 b))

  none_covered : ((b s t : ℕ) → b < 7 → (joins_at left k s t && grants_at left k b) ≡ false)
      → covers_some policy.statements accesses r.1 ≡ false
  unfolding covers_some
  none_covered none = none_any _ (types policy.statements) [] (λ s hs.
      none_any _ (types policy.statements) [] (λ t ht.
      none_any (covers_left policy.statements accesses r.1 (at (types policy.statements) s)
      (at (types policy.statements) t)) perm_numbers 0 (λ b low. rw (number_there b low) (same_at b s t low hs ht ∙ none b s t low))))

  some_covered : (b s t : ℕ) → b < 7 → (joins_at left k s t && grants_at left k b) ≡ true
      → covers_some policy.statements accesses r.1 ≡ true
  unfolding covers_some
  some_covered b s t low h =
      let in_row = joined (length (types policy.statements)) s t k fits
      (both (has left.sources s && has left.targets t) (joins s t k)
      (both (joins_at left k s t) (grants_at left k b) h).0).1 in
      list_any_at _ (types policy.statements) s [] in_row.0 (
      list_any_at _ (types policy.statements) t [] in_row.1 (
      list_any_at (covers_left policy.statements accesses r.1 (at (types policy.statements) s)
      (at (types policy.statements) t)) perm_numbers b 0 low (rw (number_there b low) (same_at b s t low in_row.0 in_row.1 ∙ h))))

  pub meets_is : (m : Bool)
      → (m ≡ false → (b s t : ℕ) → b < 7 → (joins_at left k s t && grants_at left k b) ≡ false)
      → (IsTrue m → (b : ℕ) × (s : ℕ) × (t : ℕ) × (b < 7) × ((joins_at left k s t && grants_at left k b) ≡ true))
      → m ≡ covers_some policy.statements accesses r.1
  meets_is true none some = (let x = some refl in sym (some_covered x.0 x.1 x.2 x.3 x.4))
  meets_is false none some = sym (none_covered (none refl))
