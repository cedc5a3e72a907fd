-- Rules by number that are apart are rules by name that are consistent.
use Rattle.std.proofs.Common.{inl, inr, ◌≡◌, ℕ, ◌<◌, Bool, true, false, ◌&&◌, ◌||◌, List, [], ◌∷◌, length, Option}
use Rattle.std.proofs.Common.{Some, None, refl, sym, ap, ◌∙◌, arith, true≢false}
use Rattle.std.specs.List.{list_any, cons_option}
use Rattle.std.specs.Str.{bytes_eq}
use Rattle.std.proofs.lemmas.Bool.{cases_eq, false_from_ne_true, ne_eqb, and_parts, and_from}
use Rattle.std.proofs.lemmas.Option.{get_or_from_slice_get, slice_get_within}
use Rattle.std.proofs.lemmas.Slice.Eq.{bytes_eq-Decides}
use Rattle.sm_values.specs.Permissions.{perm_of, class_word, bit}
use Rattle.sm_values.specs.declared.class.Class.{Class}
use Rattle.sm_values.specs.declared.class.Class.TheVariants.{ServiceManager, Binder}
use Rattle.sm_values.specs.declared.perms.Perms.{Perms}
use Rattle.sm_ruletext.specs.Sets.{selects}
use Rattle.sm_ruletext.specs.declared.rule.Rule.{Rule}
use Rattle.sm_ruletext.specs.declared.statement.RuleKind.TheVariants.{Allow, Neverallow}
use Rattle.sm_ruletext.specs.declared.statement.What.{What}
use Rattle.sm_ruletext.specs.declared.statement.What.TheVariants as what
use Rattle.sm_types.specs.Names.{Name, at}
use Rattle.sm_types.specs.Denoting.{Policy, types, declares, chosen, in_set, type_of, is_type_named}
use Rattle.sm_rules.specs.Access as access
use Rattle.sm_rules.specs.Access.{rule_of, covered_by, covers_as, gives, written, forbidden, picks, IsConsistent}
use Rattle.sm_rules.specs.Keeping.{class_at, perm_at, covers, covered, AllSay, KeptRules, RulesOf, rules_in}
use Rattle.sm_rules.specs.Keeping.{CoverAs, SayAs}
use Rattle.sm_rules.specs.declared.kept.Kept.{Kept}
use Rattle.sm_matrices.proofs.Searches.{some_at}
use Rattle.sm_neverallow.specs.Violating.{AllApart}

-- ---- what a rule covers is of declared types, and of a single permission

-- A declared type has a number.
numbered : (t : Name) (policy : Policy) → declares policy t ≡ true
    → (i : ℕ) × (i < length (types policy)) × (at (types policy) i ≡ t)
numbered t policy h =
    let r = some_at (λ n. bytes_eq n t) (types policy) (sym (declared policy) ∙ h) in (
      r.0,
      slice_get_within (types policy) r.0 r.1 r.2,
      get_or_from_slice_get (types policy) r.0 r.1 [] r.2
          ∙ (bytes_eq-Decides r.1 t).0 r.3,
    )
  where
    declared : (sts : Policy) → declares sts t ≡ list_any (λ n. bytes_eq n t) (types sts)
    declared [] = refl
    declared (st ∷ sts) = by st.what (declared sts) where
      by : (what : What) → declares sts t ≡ list_any (λ n. bytes_eq n t) (types sts)
          → (is_type_named t what || declares sts t) ≡ list_any (λ n. bytes_eq n t)
          (cons_option (type_of what) (types sts))
      by (what.Declared n names) e = ap (λ (c : Bool). bytes_eq n t || c) e
      by (what.Attribute n) e = e
      by (what.Member n names) e = e
      by (what.Rule kind r) e = e
      by (what.Permissive n) e = e

source_declared : (policy : Policy) (s t : Name) (r : Rule) → access.joins policy s t r ≡ true
    → declares policy s ≡ true
unfolding access.joins
source_declared policy s t r h =
    (and_parts (declares policy s) (chosen policy r.source s)
    (and_parts (in_set policy r.source s) (in_set policy r.target t || (r.to_self && bytes_eq s t)) h).0).0

target_declared : (policy : Policy) (s t : Name) (r : Rule) → access.joins policy s t r ≡ true
    → declares policy t ≡ true
unfolding access.joins
target_declared policy s t r h =
    by (in_set policy r.target t) refl (and_parts (in_set policy r.source s)
    (in_set policy r.target t || (r.to_self && bytes_eq s t)) h).1
  where
    own : declares policy s ≡ true
    own = source_declared policy s t r h

    by : (b : Bool) → in_set policy r.target t ≡ b → (b || (r.to_self && bytes_eq s t)) ≡ true
        → declares policy t ≡ true
    by true e g = (and_parts (declares policy t) (chosen policy r.target t) e).0
    by false e g = (let same : s ≡ t = (bytes_eq-Decides s t).0 (and_parts r.to_self (bytes_eq s t) g).1 in
        rw (← same) own)

-- A single permission has a number.
pub record Number (class : Class) (perm : Perms) : Type 0 where
  pub b : ℕ
  pub low : b < 7
  pub of_class : class_at b ≡ class
  pub is_perm : perm_at b ≡ perm

perm_number : (class : Class) (perm : Perms) (w : Name) → perm_of class perm ≡ Some w → Number class perm
perm_number ServiceManager perm w h = elim (cases_eq perm.0 1) [
  | inl e ↦ record { b = 0; low = omega arith; of_class = refl; is_perm = ap (λ (n : ℕ). bit n) (sym e) }
  | inr a ↦ elim (cases_eq perm.0 2) [
    | inl e ↦ record { b = 1; low = omega arith; of_class = refl; is_perm = ap (λ (n : ℕ). bit n) (sym e) }
    | inr b ↦ elim (cases_eq perm.0 4) [
      | inl e ↦ record { b = 2; low = omega arith; of_class = refl; is_perm = ap (λ (n : ℕ). bit n) (sym e) }
      | inr c ↦ (let none : perm_of ServiceManager perm ≡ None =
          rw (ne_eqb perm.0 1 a, ne_eqb perm.0 2 b, ne_eqb perm.0 4 c) refl in absurd (cc (h, none)))
    ]
  ]
]
perm_number Binder perm w h = elim (cases_eq perm.0 8) [
  | inl e ↦ record { b = 3; low = omega arith; of_class = refl; is_perm = ap (λ (n : ℕ). bit n) (sym e) }
  | inr a ↦ elim (cases_eq perm.0 16) [
    | inl e ↦ record { b = 4; low = omega arith; of_class = refl; is_perm = ap (λ (n : ℕ). bit n) (sym e) }
    | inr b ↦ elim (cases_eq perm.0 32) [
      | inl e ↦ record { b = 5; low = omega arith; of_class = refl; is_perm = ap (λ (n : ℕ). bit n) (sym e) }
      | inr c ↦ elim (cases_eq perm.0 64) [
        | inl e ↦ record { b = 6; low = omega arith; of_class = refl; is_perm = ap (λ (n : ℕ). bit n) (sym e) }
        | inr d ↦ (let none : perm_of Binder perm ≡ None =
            rw (ne_eqb perm.0 8 a, ne_eqb perm.0 16 b, ne_eqb perm.0 32 c, ne_eqb perm.0 64 d) refl in
            absurd (cc (h, none)))
      ]
    ]
  ]
]

given_number : (rule : Rule) (class : Class) (perm : Perms) → gives class perm rule ≡ true → Number class perm
unfolding gives
given_number rule class perm h = by (perm_of class perm) refl
    (and_parts (selects rule.class (class_word class)) (picks rule.perm (perm_of class perm)) h).1 where
      by : (o : Option Name) → perm_of class perm ≡ o → picks rule.perm o ≡ true → Number class perm
      by None e g = absurd (true≢false (sym g))
      by (Some w) e g = perm_number class perm w e

-- What is written has numbers.
pub record Numbered (policy : Policy) (s t : Name) (class : Class) (perm : Perms) : Type 0 where
  pub number : Number class perm
  pub source : (i : ℕ) × (i < length (types policy)) × (at (types policy) i ≡ s)
  pub target : (i : ℕ) × (i < length (types policy)) × (at (types policy) i ≡ t)

written_numbered : (policy : Policy) (s t : Name) (class : Class) (perm : Perms) → written policy s t class perm ≡ true
    → Numbered policy s t class perm
written_numbered policy s t class perm h =
    let found = some_at (covers_as Allow policy s t class perm) policy h in by (rule_of found.1.what Allow) found.3
  where
    by : (o : Option Rule) → covered_by policy s t class perm o ≡ true → Numbered policy s t class perm
    by None g = absurd (true≢false (sym g))
    by (Some r) g = (let parts = and_parts (access.joins policy s t r) (gives class perm r) g in record {
      number = given_number r class perm parts.1;
      source = numbered s policy (source_declared policy s t r parts.0);
      target = numbered t policy (target_declared policy s t r parts.0);
    })

-- ---- consistency

-- The kept rules cover by number what the policy says of the types by name.
pub record AreSaid (policy : Policy) (names : List Name) (rules : KeptRules) : Type 0 where
  pub allowing : AllSay policy names (rules_in Allow policy) rules.allows
  pub refusing : AllSay policy names (rules_in Neverallow policy) rules.neverallows
  pub writing : (b s t : ℕ) → b < 7 → s < length names → t < length names
      → covered rules.allows b s t ≡ written policy (at names s) (at names t) (class_at b) (perm_at b)
  pub forbidding : (b s t : ℕ) → b < 7 → s < length names → t < length names
      → covered rules.neverallows b s t ≡ forbidden policy (at names s) (at names t) (class_at b) (perm_at b)

-- Rules that say so of both of their lists do.
pub are_said : (rules : KeptRules) (allows nevers : List Kept) → allows ≡ rules.allows → nevers ≡ rules.neverallows
    → SayAs Allow rules allows → SayAs Neverallow rules nevers → CoverAs Allow rules allows
    → CoverAs Neverallow rules nevers → (policy : Policy) (names : List Name) → RulesOf policy names rules
    → AreSaid policy names rules
are_said rules allows nevers a n allowing refusing writing forbidding policy names is = record {
  allowing = rw a at (allowing policy names is);
  refusing = rw n at (refusing policy names is);
  writing = rw a at (writing policy names is);
  forbidding = rw n at (forbidding policy names is);
}

-- What is both written and forbidden is covered by an allow rule and by a neverallow rule.
none_both : (policy : Policy) (names : List Name) (rules : KeptRules) (b i j : ℕ) → RulesOf policy names rules
    → AreSaid policy names rules
    → AllApart rules.allows rules.neverallows rules.count → b < 7 → i < length names → j < length names
    → written policy (at names i) (at names j) (class_at b) (perm_at b) ≡ true
    → forbidden policy (at names i) (at names j) (class_at b) (perm_at b) ≡ true → ⊥
none_both policy names rules b i j is said apart low hi hj given denied =
    let never = some_at (covers b i j) rules.neverallows (said.forbidding b i j low hi hj ∙ denied) in
    let inside : i < rules.count = rw is.count hi in
    let both : (covered rules.allows b i j && covers b i j never.1) ≡ true =
    and_from (covered rules.allows b i j) (covers b i j never.1) (said.writing b i j low hi hj ∙ given) never.3 in
    let none : (covered rules.allows b i j && covers b i j never.1) ≡ false =
    (apart.apart never.0 never.1 never.2).apart b i j low inside in
    true≢false (sym both ∙ none)

pub consistent : (policy : Policy) (names : List Name) (rules : KeptRules) → RulesOf policy names rules
    → AreSaid policy names rules
    → AllApart rules.allows rules.neverallows rules.count → IsConsistent policy
consistent policy names rules is said apart s t class perm =
    false_from_ne_true (written policy s t class perm && forbidden policy s t class perm) (λ h.
    let parts = and_parts (written policy s t class perm) (forbidden policy s t class perm) h in
    let n = written_numbered policy s t class perm parts.0 in
    let s_is : at names n.source.0 ≡ s = rw is.types n.source.2 in
    let t_is : at names n.target.0 ≡ t = rw is.types n.target.2 in
    none_both policy names rules n.number.b n.source.0 n.target.0 is said apart n.number.low (rw is.types n.source.1)
    (rw is.types n.target.1)
    (rw (s_is, t_is, n.number.of_class, n.number.is_perm) parts.0)
    (rw (s_is, t_is, n.number.of_class, n.number.is_perm) parts.1))
