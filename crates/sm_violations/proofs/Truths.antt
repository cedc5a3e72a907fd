-- What all violations are.
use Rattle.std.proofs.Common.{◌≡◌, ℕ, ◌<◌, Bool, true, false, ◌&&◌, List, [], ◌∷◌, length, Option, None, Some, refl}
use Rattle.std.proofs.Common.{sym, ap, ◌∙◌, arith, slice_get, Result, Ok, Err, cond}
use Rattle.std.proofs.lemmas.Option.{slice_get-get_or}
use Rattle.sm_values.specs.Reading.{◌>>=◌}
use Rattle.sm_values.proofs.Readers.{went_well}
use Rattle.sm_ruletext.specs.declared.rule.Rule.{Rule}
use Rattle.sm_ruletext.specs.declared.statement.RuleKind.TheVariants.{Allow, Neverallow}
use Rattle.sm_ruletext.specs.declared.statement.Statement.{Statement}
use Rattle.sm_types.specs.Names.{Name, at}
use Rattle.sm_types.specs.Denoting.{types}
use Rattle.sm_rules.specs.Access.{covers}
use Rattle.sm_rules.specs.Keeping.{class_at, perm_at, rules_in}
use Rattle.sm_policy.specs.Violating.{clash, clash_of_never, clash_of_pair, clash_of_source, first_clash}
use Rattle.sm_policy.specs.Violating.{first_violation, perm_numbers}
use Rattle.sm_policy.specs.declared.violation.Violation.{Violation}
use Rattle.sm_violations.specs.Laws.{IsIn, IsTrueOf}
use Rattle.sm_violations.specs.Listing.{violations, violations_of}
use Rattle.sm_violations.proofs.Members.{in_filter, in_flat, none_of, some_of, to_filter, to_flat, head_of_filter}
use Rattle.sm_violations.proofs.Members.{head_of_flat}

-- ---- the first one

head_of_never : (policy : List Statement) (never : ℕ × Rule)
    → slice_get (violations_of policy never) 0 ≡ clash_of_never policy never
unfolding violations_of clash_of_never
head_of_never policy never = head_of_filter (first_clash policy never) (rules_in Allow policy)

pub head : (policy : List Statement) → slice_get (violations policy) 0 ≡ first_violation policy
unfolding violations first_violation
head policy =
    head_of_flat (clash_of_never policy) (violations_of policy) (rules_in Neverallow policy) (head_of_never policy)

-- ---- each is one

module _ (policy : List Statement) (never allow : ℕ × Rule) where
  -- The violation has the lines of the two rules, and both cover its access.
  pub record IsOf (v : Violation) : Type 0 where
    pub never_line : v.never_line ≡ never.0
    pub allow_line : v.allow_line ≡ allow.0
    pub both : (covers policy v.source v.target v.class v.perm allow.1
        && covers policy v.source v.target v.class v.perm never.1) ≡ true

  abbrev both_cover : Name → Name → ℕ → Bool
  both_cover s t b = covers policy s t (class_at b) (perm_at b) allow.1
      && covers policy s t (class_at b) (perm_at b) never.1

  abbrev named : Name → Name → ℕ → Violation
  named s t b = record {
    never_line = never.0;
    allow_line = allow.0;
    source = s;
    target = t;
    class = class_at b;
    perm = perm_at b;
  }

  clash_is : (s t : Name) (b : ℕ) (v : Violation) → clash policy never allow s t b ≡ Some v → IsOf v
  unfolding clash
  clash_is s t b v h = by (both_cover s t b) refl h where
    by : (c : Bool) → both_cover s t b ≡ c → cond c (Some (named s t b)) None ≡ Some v → IsOf v
    by true e g = (let is : named s t b ≡ v = cc in
        rw (← is) (record { never_line = refl; allow_line = refl; both = e }))
    by false e g = absurd cc

  clash_there : (s t : Name) (b : ℕ) → both_cover s t b ≡ true → clash policy never allow s t b ≡ Some (named s t b)
  unfolding clash
  clash_there s t b e = rw e refl

  pub first_is : (v : Violation) → first_clash policy never allow ≡ Some v → IsOf v
  unfolding first_clash clash_of_source clash_of_pair
  first_is v h =
      let source = some_of (clash_of_source policy never allow) (types policy) v h in
      let target = some_of (clash_of_pair policy never allow source.0) (types policy) v source.2 in
      let bit = some_of (clash policy never allow source.0 target.0) perm_numbers v target.2 in
      clash_is source.0 target.0 bit.0 v bit.2

  pub first_there : (s t : Name) (b : ℕ) → IsIn s (types policy) → IsIn t (types policy) → IsIn b perm_numbers
      → both_cover s t b ≡ true → (v : Violation) × (first_clash policy never allow ≡ Some v)
  unfolding first_clash clash_of_source clash_of_pair
  first_there s t b source target bit e = by (first_clash policy never allow) refl where
    by : (o : Option Violation) → first_clash policy never allow ≡ o
        → (v : Violation) × (first_clash policy never allow ≡ Some v)
    by (Some v) h = (v, h)
    by None h =
        let at_source = none_of (clash_of_source policy never allow) (types policy) s h source in
        let at_target = none_of (clash_of_pair policy never allow s) (types policy) t at_source target in
        let at_bit = none_of (clash policy never allow s t) perm_numbers b at_target bit in
        let there = clash_there s t b e in absurd cc

pub each_true : (policy : List Statement) (v : Violation) → IsIn v (violations policy) → IsTrueOf policy v
unfolding violations violations_of
each_true policy v h =
    let never = in_flat (violations_of policy) (rules_in Neverallow policy) v h in
    let allow = in_filter (first_clash policy never.0) (rules_in Allow policy) v never.2 in
    let is = first_is policy never.0 allow.0 v allow.2 in
    record {
      never = never.0;
      allow = allow.0;
      is_never = never.1;
      is_allow = allow.1;
      never_line = is.never_line;
      allow_line = is.allow_line;
      both = is.both;
    }

-- ---- each clash has one

type_in : (policy : List Statement) (s : ℕ) → s < length (types policy) → IsIn (at (types policy) s) (types policy)
type_in policy s h = (s, slice_get-get_or (types policy) s [] h)

number_in : (b : ℕ) → b < 7 → IsIn b perm_numbers
number_in b h = let there : slice_get perm_numbers b ≡ Some b = grind arith in (b, there)

pub each_told : (policy : List Statement) (never allow : ℕ × Rule) (b s t : ℕ) → IsIn never (rules_in Neverallow policy)
    → IsIn allow (rules_in Allow policy) → b < 7 → s < length (types policy) → t < length (types policy)
    → (covers policy (at (types policy) s) (at (types policy) t) (class_at b) (perm_at b) allow.1
    && covers policy (at (types policy) s) (at (types policy) t) (class_at b) (perm_at b) never.1) ≡ true
    → (v : Violation) × IsIn v (violations policy) × (v.never_line ≡ never.0) × (v.allow_line ≡ allow.0)
unfolding violations violations_of
each_told policy never allow b s t is_never is_allow low hs ht e =
    let found = first_there policy never allow (at (types policy) s) (at (types policy) t) b (type_in policy s hs)
    (type_in policy t ht) (number_in b low) e in
    let is = first_is policy never allow found.0 found.1 in
    let of_never = to_filter (first_clash policy never) (rules_in Allow policy) allow found.0 is_allow found.1 in (
      found.0,
      to_flat (violations_of policy) (rules_in Neverallow policy) never found.0 is_never of_never,
      is.never_line,
      is.allow_line,
    )
