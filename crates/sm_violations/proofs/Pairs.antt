-- The first access that two rules have in common by number is the first one by name.
use Rattle.std.proofs.Common.{◌≡◌, ℕ, zero, suc, ◌<◌, Bool, true, false, ◌&&◌, List, [], ◌∷◌, length, Option}
use Rattle.std.proofs.Common.{None, Some, refl, sym, ◌∙◌, arith, slice_get}
use Rattle.std.proofs.lemmas.Option.{get_or_from_slice_get, slice_get_within, slice_get-get_or}
use Rattle.sm_ruletext.specs.declared.rule.Rule.{Rule}
use Rattle.sm_ruletext.specs.declared.statement.Statement.{Statement}
use Rattle.sm_types.specs.Names.{Name, at}
use Rattle.sm_types.specs.Denoting.{types}
use Rattle.sm_rules.specs.Keeping.{class_at, perm_at, Says}
use Rattle.sm_rules.specs.declared.kept.Kept.{Kept}
use Rattle.sm_neverallow.specs.Violating.{breaks, clashes, AreApart, IsBetween}
use Rattle.sm_neverallow.specs.declared.violation.NumberedViolation.{NumberedViolation as Numbered}
use Rattle.sm_policy.specs.declared.violation.Violation.{Violation}
use Rattle.sm_policy.specs.Violating.{first_some, perm_numbers, clash, clash_of_pair, clash_of_source, first_clash}
use Rattle.sm_policy.specs.Violating.{named_violation}

-- ---- the first that is given

none_at : {A B : Type 0} (f : A → Option B) (xs : List A) → ((j : ℕ) (z : A) → slice_get xs j ≡ Some z → f z ≡ None)
    → first_some f xs ≡ None
none_at f [] none = refl
none_at f (x ∷ xs) none = rw (none 0 x refl) (none_at f xs (λ j z h. none (suc j) z h))

first_at : {A B : Type 0} (f : A → Option B) (xs : List A) (i : ℕ) (x : A) (y : B) → slice_get xs i ≡ Some x
    → f x ≡ Some y
    → ((j : ℕ) (z : A) → j < i → slice_get xs j ≡ Some z → f z ≡ None) → first_some f xs ≡ Some y
first_at f [] i x y found gives before = absurd cc
first_at f (z ∷ xs) zero x y found gives before = let is : z ≡ x = cc in rw (is, gives) refl
first_at f (z ∷ xs) (suc i) x y found gives before =
    rw (before 0 z (omega arith) refl) (first_at f xs i x y found gives (λ j w low h. before (suc j) w (omega arith) h))

-- ---- numbers of permissions

number_there : (b : ℕ) → b < 7 → slice_get perm_numbers b ≡ Some b
number_there b h = grind arith

number_is : (j z : ℕ) → slice_get perm_numbers j ≡ Some z → (j < 7) × (z ≡ j)
number_is j z h =
    let low = slice_get_within perm_numbers j z h in let e = number_there j low in (low, cc)

-- ---- what two rules have in common

module _ (policy : List Statement) (never allow : ℕ × Rule) where
  abbrev breaks_at : ℕ → ℕ → ℕ → Bool
  breaks_at b s t = breaks policy (types policy) b s t allow.1 never.1

  no_clash : (b s t : ℕ) → breaks_at b s t ≡ false
      → clash policy never allow (at (types policy) s) (at (types policy) t) b ≡ None
  unfolding clash
  no_clash b s t h = rw h refl

  no_pair : (s t : ℕ) → ((b : ℕ) → b < 7 → breaks_at b s t ≡ false)
      → clash_of_pair policy never allow (at (types policy) s) (at (types policy) t) ≡ None
  unfolding clash_of_pair
  no_pair s t none = none_at (clash policy never allow (at (types policy) s) (at (types policy) t)) perm_numbers
      (λ j z h. rw (number_is j z h).1 (no_clash j s t (none j (number_is j z h).0)))

  named : (i : ℕ) (z : Name) → slice_get (types policy) i ≡ Some z → z ≡ at (types policy) i
  named i z h = sym (get_or_from_slice_get (types policy) i z [] h)

  no_source : (s : ℕ) → ((b t : ℕ) → b < 7 → t < length (types policy) → breaks_at b s t ≡ false)
      → clash_of_source policy never allow (at (types policy) s) ≡ None
  unfolding clash_of_source
  no_source s none = none_at (clash_of_pair policy never allow (at (types policy) s)) (types policy)
      (λ j z h. rw (named j z h) (no_pair s j (λ b low. none b j low (slice_get_within (types policy) j z h))))

  pub no_first : ((b s t : ℕ) → b < 7 → s < length (types policy) → t < length (types policy)
      → breaks_at b s t ≡ false)
      → first_clash policy never allow ≡ None
  unfolding first_clash
  no_first none = none_at (clash_of_source policy never allow) (types policy)
      (λ j z h. rw (named j z h)
      (no_source j (λ b t low inside. none b j t low (slice_get_within (types policy) j z h) inside)))

  -- The violation is the first access that the two rules have in common.
  pub record IsLeast (v : Numbered) : Type 0 where
    pub never_line : v.never_line ≡ never.0
    pub allow_line : v.allow_line ≡ allow.0
    pub bit : ℕ
    pub low : bit < 7
    pub class : v.class ≡ class_at bit
    pub perm : v.perm ≡ perm_at bit
    pub source : v.source < length (types policy)
    pub target : v.target < length (types policy)
    pub broken : breaks_at bit v.source v.target ≡ true
    pub no_lesser_source : (b s t : ℕ) → s < v.source → b < 7 → t < length (types policy) → breaks_at b s t ≡ false
    pub no_lesser_target : (b t : ℕ) → t < v.target → b < 7 → breaks_at b v.source t ≡ false
    pub no_lesser_perm : (b : ℕ) → b < bit → breaks_at b v.source v.target ≡ false

  module _ (v : Numbered) (is : IsLeast v) where
    abbrev found : Violation
    found = named_violation (types policy) v

    at_perm : clash policy never allow (at (types policy) v.source) (at (types policy) v.target) is.bit ≡ Some found
    unfolding clash
    at_perm = rw (is.broken, is.never_line, is.allow_line, is.class, is.perm) refl

    at_pair : clash_of_pair policy never allow (at (types policy) v.source) (at (types policy) v.target) ≡ Some found
    unfolding clash_of_pair
    at_pair =
        first_at (clash policy never allow (at (types policy) v.source) (at (types policy) v.target)) perm_numbers
        is.bit is.bit found (number_there is.bit is.low) at_perm
        (λ j z less h. rw (number_is j z h).1 (no_clash j v.source v.target (is.no_lesser_perm j less)))

    at_source : clash_of_source policy never allow (at (types policy) v.source) ≡ Some found
    unfolding clash_of_source
    at_source =
        first_at (clash_of_pair policy never allow (at (types policy) v.source)) (types policy) v.target
        (at (types policy) v.target) found (slice_get-get_or (types policy) v.target [] is.target) at_pair
        (λ j z less h. rw (named j z h) (no_pair v.source j (λ b low. is.no_lesser_target b j less low)))

    pub at_rules : first_clash policy never allow ≡ Some found
    unfolding first_clash
    at_rules =
        first_at (clash_of_source policy never allow) (types policy) v.source (at (types policy) v.source) found
        (slice_get-get_or (types policy) v.source [] is.source) at_source
        (λ j z less h. rw (named j z h) (no_source j (λ b t low inside. is.no_lesser_source b j t less low inside)))

-- ---- by number

module _ (policy : List Statement) (count : ℕ) (never allow : ℕ × Rule) (n a : Kept)
    (counted : count ≡ length (types policy)) (for_never : Says policy (types policy) never n)
    (for_allow : Says policy (types policy) allow a) where
  clash_is : (b s t : ℕ) → b < 7 → s < length (types policy) → t < length (types policy)
      → clashes b s t a n ≡ breaks_at policy never allow b s t
  clash_is b s t low hs ht = rw (for_allow.covers b s t low hs ht, for_never.covers b s t low hs ht) refl

  pub apart_is : AreApart a n count → first_clash policy never allow ≡ None
  apart_is h = no_first policy never allow (λ b s t low hs ht.
      sym (clash_is b s t low hs ht) ∙ h.apart b s t low (omega (arith, counted, hs)) (omega (arith, counted, ht)))

  least : (v : Numbered) → IsBetween a n count v → IsLeast policy never allow v
  least v h =
      let source : v.source < length (types policy) = omega (arith, counted, h.source) in
      let target : v.target < length (types policy) = omega (arith, counted, h.target) in
      record {
        never_line = h.never_line ∙ for_never.line;
        allow_line = h.allow_line ∙ for_allow.line;
        bit = h.bit;
        low = h.low;
        class = h.class;
        perm = h.perm;
        source = source;
        target = target;
        broken = sym (clash_is h.bit v.source v.target h.low source target) ∙ h.both;
        no_lesser_source = λ b s t less low ht. sym (clash_is b s t low (omega (arith, source, less)) ht)
            ∙ h.no_lesser_source b s t less low (omega (arith, counted, ht));
        no_lesser_target = λ b t less low. sym (clash_is b v.source t low source (omega (arith, target, less)))
            ∙ h.no_lesser_target b t less low;
        no_lesser_perm = λ b less. sym (clash_is b v.source v.target (omega (arith, h.low, less)) source target)
            ∙ h.no_lesser_perm b less;
      }

  pub between_is : (v : Numbered) → IsBetween a n count v
      → first_clash policy never allow ≡ Some (named_violation (types policy) v)
  between_is v h = at_rules policy never allow v (least v h)
