-- The violations that are left.
use Rattle.std.proofs.Common.{◌≡◌, ℕ, zero, suc, ◌+◌, ◌<◌, ◌≤◌, List, [], ◌∷◌, ◌++◌, length, drop, Option, None, Some}
use Rattle.std.proofs.Common.{refl, sym, ap, ◌∙◌, arith, slice_get, add-one}
use Rattle.std.specs.List.{filter_map, flat_map}
use Rattle.std.proofs.lemmas.Option.{slice_get_within}
use Rattle.sm_ruletext.specs.declared.rule.Rule.{Rule}
use Rattle.sm_ruletext.specs.declared.statement.RuleKind.TheVariants.{Allow, Neverallow}
use Rattle.sm_ruletext.specs.declared.statement.Statement.{Statement}
use Rattle.sm_rules.specs.Keeping.{rules_in}
use Rattle.sm_policy.specs.Violating.{first_clash}
use Rattle.sm_policy.specs.declared.violation.Violation.{Violation}
use Rattle.sm_violations.specs.Listing.{violations, violations_by, violations_from, violations_left, violations_of}

-- ---- lists

filter_none : {A B : Type 0} (f : A → Option B) (xs : List A) (start : ℕ)
    → ((j : ℕ) (z : A) → start ≤ j → slice_get xs j ≡ Some z → f z ≡ None) → filter_map f (drop start xs) ≡ []
filter_none f [] zero none = refl
filter_none f [] (suc n) none = refl
filter_none f (x ∷ xs) zero none =
    rw (none 0 x (omega arith) refl) (filter_none f xs zero (λ j z le h. none (suc j) z (omega arith) h))
filter_none f (x ∷ xs) (suc n) none = filter_none f xs n (λ j z le h. none (suc j) z (omega arith) h)

filter_first : {A B : Type 0} (f : A → Option B) (xs : List A) (start i : ℕ) (x : A) (y : B) → slice_get xs i ≡ Some x
    → start ≤ i → f x ≡ Some y
    → ((j : ℕ) (z : A) → start ≤ j → j < i → slice_get xs j ≡ Some z → f z ≡ None)
    → filter_map f (drop start xs) ≡ y ∷ filter_map f (drop (suc i) xs)
filter_first f [] start i x y found le gives before = absurd cc
filter_first f (z ∷ xs) zero zero x y found le gives before = let is : z ≡ x = cc in rw (is, gives) refl
filter_first f (z ∷ xs) zero (suc i) x y found le gives before =
    rw (before 0 z (omega arith) (omega arith) refl)
    (filter_first f xs zero i x y found (omega arith) gives
    (λ j w low less h. before (suc j) w (omega arith) (omega arith) h))
filter_first f (z ∷ xs) (suc n) zero x y found le gives before = absurd (omega arith)
filter_first f (z ∷ xs) (suc n) (suc i) x y found le gives before =
    filter_first f xs n i x y found (omega arith) gives
    (λ j w low less h. before (suc j) w (omega arith) (omega arith) h)

drop_at : {A : Type 0} (xs : List A) (n : ℕ) (x : A) → slice_get xs n ≡ Some x → drop n xs ≡ x ∷ drop (suc n) xs
drop_at [] n x found = absurd cc
drop_at (z ∷ xs) zero x found = let is : z ≡ x = cc in rw is refl
drop_at (z ∷ xs) (suc n) x found = drop_at xs n x found

drop_none : {A : Type 0} (xs : List A) (n : ℕ) → ((x : A) → slice_get xs n ≡ Some x → ⊥) → drop n xs ≡ []
drop_none [] zero none = refl
drop_none [] (suc n) none = refl
drop_none (x ∷ xs) zero none = absurd (none x refl)
drop_none (x ∷ xs) (suc n) none = drop_none xs n none

-- ---- violations

module _ (policy : List Statement) where
  from_start : (nevers : List (ℕ × Rule)) → violations_from policy nevers (rules_in Allow policy)
      ≡ flat_map (violations_of policy) nevers
  unfolding violations_of
  from_start [] = refl
  from_start (never ∷ nevers) = refl

  pub left_whole : violations_left policy 0 0 ≡ violations policy
  unfolding violations_left violations
  left_whole = from_start (rules_in Neverallow policy)

  pub left_end : (n start : ℕ) → ((r : ℕ × Rule) → slice_get (rules_in Neverallow policy) n ≡ Some r → ⊥)
      → violations_left policy n start ≡ []
  unfolding violations_left
  left_end n start none = rw (drop_none (rules_in Neverallow policy) n none) refl

  left_at : (n start : ℕ) (r : ℕ × Rule) → slice_get (rules_in Neverallow policy) n ≡ Some r
      → violations_left policy n start ≡ violations_by policy r (drop start (rules_in Allow policy))
      ++ flat_map (violations_of policy) (drop (suc n) (rules_in Neverallow policy))
  unfolding violations_left
  left_at n start r found = rw (drop_at (rules_in Neverallow policy) n r found) refl

  pub left_none : (n start : ℕ) (r : ℕ × Rule) → slice_get (rules_in Neverallow policy) n ≡ Some r
      → ((j : ℕ) (z : ℕ × Rule) → start ≤ j → slice_get (rules_in Allow policy) j ≡ Some z
      → first_clash policy r z ≡ None)
      → violations_left policy n start ≡ violations_left policy (n + 1) 0
  unfolding violations_left
  left_none n start r found none =
      left_at n start r found
      ∙ rw (filter_none (first_clash policy r) (rules_in Allow policy) start none, add-one n)
      (sym (from_start (drop (suc n) (rules_in Neverallow policy))))

  pub left_some : (n start i : ℕ) (r a : ℕ × Rule) (v : Violation) → slice_get (rules_in Neverallow policy) n ≡ Some r
      → slice_get (rules_in Allow policy) i ≡ Some a → start ≤ i → first_clash policy r a ≡ Some v
      → ((j : ℕ) (z : ℕ × Rule) → start ≤ j → j < i → slice_get (rules_in Allow policy) j ≡ Some z
      → first_clash policy r z ≡ None)
      → violations_left policy n start ≡ v ∷ violations_left policy n (i + 1)
  left_some n start i r a v found there le gives before =
      left_at n start r found
      ∙ rw (filter_first (first_clash policy r) (rules_in Allow policy) start i a v there le gives before, add-one i)
      (ap (λ l. v ∷ l) (sym (left_at n (suc i) r found)))
