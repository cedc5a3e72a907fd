-- The first violation by number is the first violation by name.
use Rattle.std.proofs.Common.{◌≡◌, ℕ, zero, suc, ◌<◌, Bool, false, ◌&&◌, List, [], ◌∷◌, length, Option}
use Rattle.std.proofs.Common.{None, Some, refl, sym, arith, slice_get}
use Rattle.std.proofs.lemmas.Option.{get_or_from_slice_get, slice_get_within, slice_get-get_or}
use Rattle.sm_values.specs.declared.class.Class.{Class}
use Rattle.sm_values.specs.declared.perms.Perms.{Perms}
use Rattle.sm_ruletext.specs.declared.rule.Rule.{Rule}
use Rattle.sm_ruletext.specs.declared.statement.RuleKind.TheVariants.{Allow, Neverallow}
use Rattle.sm_ruletext.specs.declared.statement.Statement.{Statement}
use Rattle.sm_types.specs.Names.{Name, at}
use Rattle.sm_types.specs.Denoting.{types}
use Rattle.sm_rules.specs.Access.{covers, IsConsistent}
use Rattle.sm_rules.proofs.Consistent.{some_any}
use Rattle.sm_rules.specs.Keeping.{rules_in, class_at, perm_at}
use Rattle.sm_matrices.proofs.Searches.{any_at}
use Rattle.sm_neverallow.specs.Violating.{breaks, IsFirstViolation}
use Rattle.sm_neverallow.specs.declared.violation.NumberedViolation.{NumberedViolation as Numbered}
use Rattle.sm_policy.specs.declared.violation.Violation.{Violation}
use Rattle.sm_policy.specs.Violating.{first_some, perm_numbers, clash, clash_of_pair, clash_of_source, first_clash}
use Rattle.sm_policy.specs.Violating.{clash_of_never, first_violation, named_violation}

-- ---- the first that is given

none_at : {A B : Type 0} (f : A → Option B) (xs : List A) → ((j : ℕ) (z : A) → slice_get xs j ≡ Some z → f z ≡ None)
    → first_some f xs ≡ None
none_at f [] none = refl
none_at f (x ∷ xs) none = rw (none 0 x refl) (none_at f xs (λ j z h. none (suc j) z h))

first_at : {A B : Type 0} (f : A → Option B) (xs : List A) (i : ℕ) (x : A) (y : B) → slice_get xs i ≡ Some x
    → f x ≡ Some y
    → ((j : ℕ) (z : A) → j < i → slice_get xs j ≡ Some z → f z ≡ None) → first_some f xs ≡ Some y
first_at f [] i x y found gives before = absurd cc
first_at f (z ∷ xs) zero x y found gives before = let is : z ≡ x = cc in rw (is, gives) refl
first_at f (z ∷ xs) (suc i) x y found gives before =
    rw (before 0 z (omega arith) refl) (first_at f xs i x y found gives (λ j w low h. before (suc j) w (omega arith) h))

-- ---- numbers of permissions

number_there : (b : ℕ) → b < 7 → slice_get perm_numbers b ≡ Some b
number_there b h = grind arith

number_is : (j z : ℕ) → slice_get perm_numbers j ≡ Some z → (j < 7) × (z ≡ j)
number_is j z h =
    let low = slice_get_within perm_numbers j z h in let e = number_there j low in (low, cc)

-- ---- what two rules have in common

module _ (policy : List Statement) (never allow : ℕ × Rule) where
  no_clash : (b s t : ℕ) → breaks policy (types policy) b s t allow.1 never.1 ≡ false
      → clash policy never allow (at (types policy) s) (at (types policy) t) b ≡ None
  unfolding clash
  no_clash b s t h = rw h refl

  no_pair : (s t : ℕ) → ((b : ℕ) → b < 7 → breaks policy (types policy) b s t allow.1 never.1 ≡ false)
      → clash_of_pair policy never allow (at (types policy) s) (at (types policy) t) ≡ None
  unfolding clash_of_pair
  no_pair s t none = none_at (clash policy never allow (at (types policy) s) (at (types policy) t)) perm_numbers
      (λ j z h. rw (number_is j z h).1 (no_clash j s t (none j (number_is j z h).0)))

  named : (i : ℕ) (z : Name) → slice_get (types policy) i ≡ Some z → z ≡ at (types policy) i
  named i z h = sym (get_or_from_slice_get (types policy) i z [] h)

  no_source : (s : ℕ) → ((b t : ℕ) → b < 7 → t < length (types policy)
      → breaks policy (types policy) b s t allow.1 never.1 ≡ false)
      → clash_of_source policy never allow (at (types policy) s) ≡ None
  unfolding clash_of_source
  no_source s none = none_at (clash_of_pair policy never allow (at (types policy) s)) (types policy)
      (λ j z h. rw (named j z h) (no_pair s j (λ b low. none b j low (slice_get_within (types policy) j z h))))

  no_first : ((b s t : ℕ) → b < 7 → s < length (types policy) → t < length (types policy)
      → breaks policy (types policy) b s t allow.1 never.1 ≡ false)
      → first_clash policy never allow ≡ None
  unfolding first_clash
  no_first none = none_at (clash_of_source policy never allow) (types policy)
      (λ j z h. rw (named j z h)
      (no_source j (λ b t low inside. none b j t low (slice_get_within (types policy) j z h) inside)))

module _ (policy : List Statement) (v : Numbered) (is : IsFirstViolation policy (types policy) v) where
  abbrev found : Violation
  found = named_violation (types policy) v

  at_perm : clash policy is.never is.allow (at (types policy) v.source) (at (types policy) v.target) is.bit ≡ Some found
  unfolding clash
  at_perm = rw (is.broken, is.never_line, is.allow_line, is.class, is.perm) refl

  at_pair : clash_of_pair policy is.never is.allow (at (types policy) v.source) (at (types policy) v.target)
      ≡ Some found
  unfolding clash_of_pair
  at_pair =
      first_at (clash policy is.never is.allow (at (types policy) v.source) (at (types policy) v.target)) perm_numbers
      is.bit is.bit found (number_there is.bit is.low) at_perm
      (λ j z less h. rw (number_is j z h).1
      (no_clash policy is.never is.allow j v.source v.target (is.no_lesser_perm j less)))

  at_source : clash_of_source policy is.never is.allow (at (types policy) v.source) ≡ Some found
  unfolding clash_of_source
  at_source =
      first_at (clash_of_pair policy is.never is.allow (at (types policy) v.source)) (types policy) v.target
      (at (types policy) v.target) found
      (slice_get-get_or (types policy) v.target [] is.target) at_pair
      (λ j z less h. rw (named policy is.never is.allow j z h)
      (no_pair policy is.never is.allow v.source j (λ b low. is.no_lesser_target b j less low)))

  at_rules : first_clash policy is.never is.allow ≡ Some found
  unfolding first_clash
  at_rules =
      first_at (clash_of_source policy is.never is.allow) (types policy) v.source (at (types policy) v.source) found
      (slice_get-get_or (types policy) v.source [] is.source) at_source
      (λ j z less h. rw (named policy is.never is.allow j z h)
      (no_source policy is.never is.allow j (λ b t low inside. is.no_lesser_source b j t less low inside)))

  at_never : clash_of_never policy is.never ≡ Some found
  unfolding clash_of_never
  at_never =
      first_at (first_clash policy is.never) (rules_in Allow policy) is.allow_place is.allow found is.allow_found
      at_rules
      (λ j z less h. no_first policy is.never z
      (λ b s t low source target. is.no_earlier_allow j b s t z less h low source target))

  pub violation_is : first_violation policy ≡ Some (named_violation (types policy) v)
  unfolding first_violation clash_of_never
  violation_is =
      first_at (clash_of_never policy) (rules_in Neverallow policy) is.never_place is.never found is.never_found
      at_never
      (λ j z less h. none_at (first_clash policy z) (rules_in Allow policy)
      (λ i w g. no_first policy z w
      (λ b s t low source target. is.no_earlier_never j i b s t z w less h g low source target)))

-- Where nothing is broken there is none.
pub no_violation : (policy : List Statement) → IsConsistent policy → first_violation policy ≡ None
unfolding first_violation clash_of_never
no_violation policy consistent =
    none_at (clash_of_never policy) (rules_in Neverallow policy)
    (λ j z h. none_at (first_clash policy z) (rules_in Allow policy)
    (λ i w g. no_first policy z w
    (λ b s t low source target.
    apart i j w z (at (types policy) s) (at (types policy) t) (class_at b) (perm_at b) g h)))
  where
    apart : (i j : ℕ) (allow never : ℕ × Rule) (s t : Name) (class : Class) (perm : Perms)
        → slice_get (rules_in Allow policy) i ≡ Some allow → slice_get (rules_in Neverallow policy) j ≡ Some never
        → (covers policy s t class perm allow.1 && covers policy s t class perm never.1) ≡ false
    apart i j allow never s t class perm found_allow found_never =
        let test : ℕ × Rule → Bool = λ r. covers policy s t class perm r.1 in
        grind (
          arith,
          consistent s t class perm,
          some_any Allow policy s t class perm,
          some_any Neverallow policy s t class perm,
          any_at test (rules_in Allow policy) i allow found_allow,
          any_at test (rules_in Neverallow policy) j never found_never,
        )
