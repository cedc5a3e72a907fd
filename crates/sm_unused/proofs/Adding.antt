-- Rules that cover some access that others don't cover, by number and by name.
use Rattle.std.proofs.Common.{◌≡◌, ◌∙◌, ℕ, zero, suc, ◌+◌, ◌<◌, Bool, true, false, not, ◌&&◌, ◌||◌, List, [], ◌∷◌, ◌++◌}
use Rattle.std.proofs.Common.{length, get_or, refl, sym, inl, inr, arith, true≢false}
use Rattle.std.specs.Prelude.{IsTrue}
use Rattle.std.specs.List.{list_any}
use Rattle.std.proofs.lemmas.Bool.{cases_lt}
use Rattle.std.proofs.lemmas.Bool.Decides.{nat_tests}
use Rattle.std.proofs.lemmas.List.Folds.{list_any-append, list_any_at}
use Rattle.sm_ruletext.specs.declared.rule.Rule.{Rule}
use Rattle.sm_ruletext.specs.declared.statement.Statement.{Statement}
use Rattle.sm_types.specs.Names.{at}
use Rattle.sm_types.specs.Denoting.{types}
use Rattle.sm_rules.specs.Access as access
use Rattle.sm_rules.specs.Keeping.{FitsRule, Says, class_at, covers, joins, perm_at}
use Rattle.sm_rules.specs.declared.kept.Kept.{Kept}
use Rattle.sm_questions.specs.Accesses.{perm_numbers}
use Rattle.sm_unused.specs.Missing.{AreMissing, IsTable, is_missing}
use Rattle.sm_unused.specs.Unused.{covers_more, covers_new, some_cover}
use Rattle.sm_unused.specs.declared.missing.Missing.{Missing}

none_any : {A : Type 0} (p : A → Bool) (xs : List A) (d : A)
    → ((i : ℕ) → i < length xs → p (get_or xs i d) ≡ false) → list_any p xs ≡ false
none_any p [] d h = refl
none_any p (x ∷ xs) d h = rw (h zero (omega arith)) (none_any p xs d (λ i lt. h (suc i) (omega arith)))

number_there : (b : ℕ) → b < 7 → get_or perm_numbers b 0 ≡ b
number_there b lt = grind arith

-- A rule joins only types.
joined : (n s t : ℕ) (k : Kept) → FitsRule n k → joins s t k ≡ true → (s < n) × (t < n)
joined n s t k fits h = elim (cases_lt s n) [
  | inl hs ↦ elim (cases_lt t n) [
    | inl ht ↦ (hs, ht)
    | inr past ↦ (let none = fits.targets_past t past in absurd (grind (arith, nat_tests, none, h, hs)))
  ]
  | inr past ↦ (let none = fits.sources_past s past in absurd (grind (arith, nat_tests, none, h)))
]

both : (a b : Bool) → (a && b) ≡ true → (a ≡ true) × (b ≡ true)
both true true h = (refl, refl)
both true false h = absurd (true≢false (sym h))
both false b h = absurd (true≢false (sym h))

swapped : (a b : Bool) → (a && b) ≡ (b && a)
swapped true true = refl
swapped true false = refl
swapped false true = refl
swapped false false = refl

module _ (policy : List Statement) (others : List (ℕ × Rule)) (missing : Missing) (r : ℕ × Rule) (k : Kept)
    (are : AreMissing policy others missing) (said : Says policy (types policy) r k)
    (fits : FitsRule (length (types policy)) k) where
  -- An access is missing and covered by number as it is new by name.
  same_at : (b s t : ℕ) → b < 7 → s < length (types policy) → t < length (types policy)
      → covers_new policy others r.1 (at (types policy) s) (at (types policy) t) b
      ≡ (is_missing missing.pairs.items b s t && covers b s t k)
  same_at b s t low hs ht = rw (are.says b s t low hs ht, said.covers b s t low hs ht)
      (swapped (access.covers policy (at (types policy) s) (at (types policy) t) (class_at b) (perm_at b) r.1)
      (not (some_cover policy others (at (types policy) s) (at (types policy) t) b)))

  none_new : ((b s t : ℕ) → b < 7 → s < missing.count
      → (is_missing missing.pairs.items b s t && covers b s t k) ≡ false) → covers_more policy others r.1 ≡ false
  unfolding covers_more
  none_new none = none_any _ (types policy) [] (λ s hs. none_any _ (types policy) [] (λ t ht.
      none_any (covers_new policy others r.1 (at (types policy) s) (at (types policy) t)) perm_numbers 0
      (λ b low. rw (number_there b low) (same_at b s t low hs ht ∙ none b s t low (rw are.count hs)))))

  some_new : (b s t : ℕ) → b < 7 → (is_missing missing.pairs.items b s t && covers b s t k) ≡ true
      → covers_more policy others r.1 ≡ true
  unfolding covers_more
  some_new b s t low h =
      let covered = (both (is_missing missing.pairs.items b s t) (covers b s t k) h).1 in
      let inside = joined (length (types policy)) s t k fits (both (joins s t k) _ covered).0 in
      list_any_at _ (types policy) s [] inside.0 (list_any_at _ (types policy) t [] inside.1 (
      list_any_at (covers_new policy others r.1 (at (types policy) s) (at (types policy) t)) perm_numbers b 0 low
      (rw (number_there b low) (same_at b s t low inside.0 inside.1 ∙ h))))

  -- A rule meets the missing accesses exactly if it covers more.
  pub met_is : (m : Bool)
      → (m ≡ false → (b s t : ℕ) → b < 7 → s < missing.count
      → (is_missing missing.pairs.items b s t && covers b s t k) ≡ false)
      → (IsTrue m → (b : ℕ) × (s : ℕ) × (t : ℕ) × (b < 7) × (s < missing.count)
      × ((is_missing missing.pairs.items b s t && covers b s t k) ≡ true))
      → m ≡ covers_more policy others r.1
  met_is true none some = (let x = some refl in sym (some_new x.0 x.1 x.2 x.3 x.5))
  met_is false none some = sym (none_new (none refl))

  -- Without the accesses that the rule covers, the others are missing for one more rule.
  pub missing_more : (next : Missing) → next.count ≡ missing.count → IsTable missing.count next.pairs.items
      → ((b s t : ℕ) → b < 7 → s < missing.count → is_missing next.pairs.items b s t
      ≡ (is_missing missing.pairs.items b s t && not (covers b s t k)))
      → AreMissing policy (others ++ r ∷ []) next
  missing_more next count table removed = record {
    count = count ∙ are.count;
    table = rw (← are.count) table;
    says = λ b s t low hs ht. removed b s t low (rw are.count hs)
        ∙ rw (
          are.says b s t low hs ht,
          said.covers b s t low hs ht,
          list_any-append (λ (q : ℕ × Rule). access.covers policy (at (types policy) s) (at (types policy) t) (class_at b)
              (perm_at b) q.1) others (r ∷ []),
        )
        (neither (some_cover policy others (at (types policy) s) (at (types policy) t) b)
        (access.covers policy (at (types policy) s) (at (types policy) t) (class_at b) (perm_at b) r.1));
  } where
    neither : (a c : Bool) → (not a && not c) ≡ not (a || (c || false))
    neither true c = refl
    neither false true = refl
    neither false false = refl

-- All accesses are missing where there is no rule.
pub all_missing : (policy : List Statement) (missing : Missing) → missing.count ≡ length (types policy)
    → IsTable (length (types policy)) missing.pairs.items
    → ((b s t : ℕ) → b < 7 → s < length (types policy) → t < length (types policy)
    → is_missing missing.pairs.items b s t ≡ true) → AreMissing policy [] missing
all_missing policy missing count table all = record { count = count; table = table; says = all }
