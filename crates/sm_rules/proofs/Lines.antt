-- The first rule that covers a tuple, by number and by name.
use Rattle.std.proofs.Common.{◌≡◌, ℕ, ◌<◌, Bool, true, false, cond, eqb, List, [], ◌∷◌, length, find, option_map}
use Rattle.std.proofs.Common.{Option, Some, None, refl, sym, ap, ◌∙◌, inl, inr, true≢false, option_and_then}
use Rattle.std.specs.List.{cons_option}
use Rattle.std.specs.Str.{bytes_eq}
use Rattle.std.proofs.lemmas.Bool.{cases_eq, eq-eqb, ne_eqb, false_from_ne_true, or_parts, and_right}
use Rattle.std.proofs.lemmas.Slice.Eq.{bytes_eq-Decides}
use Rattle.sm_values.specs.Permissions.{class_word, perm_of}
use Rattle.sm_values.specs.declared.class.Class.{Class}
use Rattle.sm_values.specs.declared.class.Class.TheVariants.{ServiceManager, Binder}
use Rattle.sm_values.specs.declared.perms.Perms.{Perms}
use Rattle.sm_ruletext.specs.Sets.{selects}
use Rattle.sm_ruletext.specs.Kept.{is_kept}
use Rattle.sm_ruletext.specs.declared.rule.Rule.{Rule}
use Rattle.sm_ruletext.specs.declared.statement.RuleKind.TheVariants.{Allow}
use Rattle.sm_ruletext.specs.declared.statement.Statement.{Statement}
use Rattle.sm_types.specs.Names.{Name, at, Distinct}
use Rattle.sm_types.specs.Denoting.{Policy}
use Rattle.sm_rules.specs.Access as access
use Rattle.sm_rules.specs.Access.{rule_of, gives, covers_as, written_line, picks}
use Rattle.sm_rules.specs.Keeping.{covers, covered_line, class_at, perm_at, StandsFor, AllStandFor, KeptRules}
use Rattle.sm_rules.specs.Keeping.{RulesOf, kept_only, rules_in}
use Rattle.sm_rules.specs.declared.kept.Kept.{Kept}

-- A rule that isn't kept gives nothing.
pub unkept : (rule : Rule) (class : Class) (perm : Perms) → is_kept rule ≡ false → gives class perm rule ≡ false
unfolding is_kept gives
unkept rule ServiceManager perm h = rw
    (or_parts (selects rule.class (class_word ServiceManager)) (selects rule.class (class_word Binder)) h).0 refl
unkept rule Binder perm h = rw (or_parts (selects rule.class (class_word ServiceManager))
    (selects rule.class (class_word Binder)) h).1 refl

-- Nor does a rule give what is no single permission of the class.
pub unnamed : (rule : Rule) (class : Class) (perm : Perms) → perm_of class perm ≡ None → gives class perm rule ≡ false
unfolding gives
unnamed rule class perm h = rw h (and_right (selects rule.class (class_word class)) false refl)

pub same_place : (names : List Name) (s t : ℕ) → Distinct names → s < length names → t < length names
    → eqb s t ≡ bytes_eq (at names s) (at names t)
same_place names s t distinct hs ht = elim (cases_eq s t) [
  | inl same ↦ eq-eqb s t same ∙ sym ((bytes_eq-Decides (at names s) (at names t)).1 (ap (at names) same))
  | inr other ↦ ne_eqb s t other ∙ sym
      (false_from_ne_true (bytes_eq (at names s) (at names t)) (λ e. other (distinct s t hs ht e)))
]

-- A kept rule covers by number what its rule covers by name.
pub stands_covers : (policy : Policy) (names : List Name) (r : ℕ × Rule) (k : Kept) (b s t : ℕ) → Distinct names
    → s < length names → t < length names → b < 7
    → StandsFor policy names r k → covers b s t k
    ≡ access.covers policy (at names s) (at names t) (class_at b) (perm_at b) r.1
unfolding access.joins
stands_covers policy names r k b s t distinct hs ht hb stands =
    rw (
      stands.sources s hs,
      stands.targets t ht,
      stands.to_self,
      stands.perms b hb,
      same_place names s t distinct hs
          ht,
    ) refl

lines_stand : (policy : Policy) (names : List Name) (rs : List (ℕ × Rule)) (ks : List Kept) (b s t : ℕ) → Distinct names
    → s < length names → t < length names → b < 7
    → AllStandFor policy names rs ks
    → covered_line ks b s t ≡ option_map (λ (r : ℕ × Rule). r.0)
    (find (λ r. access.covers policy (at names s) (at names t) (class_at b) (perm_at b) r.1) rs)
lines_stand policy names [] [] b s t distinct hs ht hb all = refl
lines_stand policy names [] (k ∷ ks) b s t distinct hs ht hb all = absurd all
lines_stand policy names (r ∷ rs) [] b s t distinct hs ht hb all = absurd all
lines_stand policy names (r ∷ rs) (k ∷ ks) b s t distinct hs ht hb all =
    rw (stands_covers policy names r k b s t distinct hs ht hb all.0)
    (by (access.covers policy (at names s) (at names t) (class_at b) (perm_at b) r.1) all.0.line
    (lines_stand policy names rs ks b s t distinct hs ht hb all.1))
  where
    by : (c : Bool) → k.line ≡ r.0
        → covered_line ks b s t ≡ option_map (λ (q : ℕ × Rule). q.0)
        (find (λ q. access.covers policy (at names s) (at names t) (class_at b) (perm_at b) q.1) rs)
        → option_map (λ (j : Kept). j.line) (cond c (Some k) (find (covers b s t) ks))
        ≡ option_map (λ (q : ℕ × Rule). q.0)
        (cond c (Some r) (find (λ q. access.covers policy (at names s) (at names t) (class_at b) (perm_at b) q.1) rs))
    by true line rest = ap (λ (n : ℕ). Some n) line
    by false line rest = rest

allow_step : (c k : Bool) (st : Statement) (r : Rule) (p : ℕ × Rule → Bool) (rs : List (ℕ × Rule))
    (o : Option Statement) → p (st.line, r) ≡ c → (k ≡ false → c ≡ false)
    → option_map (λ (q : Statement). q.line) o ≡ option_map (λ (q : ℕ × Rule). q.0) (find p rs)
    → option_map (λ (q : Statement). q.line) (cond c (Some st) o)
    ≡ option_map (λ (q : ℕ × Rule). q.0) (find p (cons_option (cond k (Some (st.line, r)) None) rs))
allow_step true true st r p rs o here none rest = rw here refl
allow_step false true st r p rs o here none rest = rw here rest
allow_step true false st r p rs o here none rest = absurd (true≢false (none refl))
allow_step false false st r p rs o here none rest = rest

-- The walk over the statements finds the line that the walk over the allow rules finds.
pub lines_of : (policy : Policy) (s t : Name) (class : Class) (perm : Perms) (sts : List Statement)
    → option_map (λ (st : Statement). st.line) (find (covers_as Allow policy s t class perm) sts)
    ≡ option_map (λ (r : ℕ × Rule). r.0) (find (λ r. access.covers policy s t class perm r.1) (rules_in Allow sts))
lines_of policy s t class perm [] = refl
lines_of policy s t class perm (st ∷ sts) = by (rule_of st.what Allow) (lines_of policy s t class perm sts) where
  by : (o : Option Rule)
      → option_map (λ (q : Statement). q.line) (find (covers_as Allow policy s t class perm) sts)
      ≡ option_map (λ (r : ℕ × Rule). r.0) (find (λ r. access.covers policy s t class perm r.1) (rules_in Allow sts))
      → option_map (λ (q : Statement). q.line)
      (cond (access.covered_by policy s t class perm o) (Some st) (find (covers_as Allow policy s t class perm) sts))
      ≡ option_map (λ (r : ℕ × Rule). r.0) (find (λ r. access.covers policy s t class perm r.1)
      (cons_option (option_and_then (kept_only st.line) o) (rules_in Allow sts)))
  by None rest = rest
  by (Some r) rest =
      allow_step (access.covers policy s t class perm r) (is_kept r) st r (λ q. access.covers policy s t class perm q.1)
      (rules_in Allow sts)
      (find (covers_as Allow policy s t class perm) sts) refl
      (λ h. and_right (access.joins policy s t r) (gives class perm r) (unkept r class perm h)) rest

-- What the kept allow rules say by number is what the text says by name.
pub written_is : (policy : Policy) (names : List Name) (rules : KeptRules) (b s t : ℕ) (class : Class) (perm : Perms)
    → RulesOf policy names rules
    → s < length names → t < length names → (b < 7) × (class_at b ≡ class) × (perm_at b ≡ perm)
    → covered_line rules.allows b s t ≡ written_line policy (at names s) (at names t) class perm
written_is policy names rules b s t class perm is hs ht hb =
    rw (← hb.1, ← hb.2) (lines_stand policy names (rules_in Allow policy) rules.allows b s t is.distinct hs ht hb.0
    (is.kept Allow)
    ∙ sym (lines_of policy (at names s) (at names t) (class_at b) (perm_at b) policy))

pub none_found : {X : Type 0} (p : X → Bool) (xs : List X) → ((x : X) → p x ≡ false) → find p xs ≡ None
none_found p [] fails = refl
none_found p (x ∷ xs) fails = rw (fails x) (none_found p xs fails)

-- Nothing is written of what is no single permission of the class.
pub unwritten : (policy : Policy) (s t : Name) (class : Class) (perm : Perms) → perm_of class perm ≡ None
    → None ≡ written_line policy s t class perm
unwritten policy s t class perm h =
    rw (
      lines_of policy s t class perm policy,
      none_found (λ (r : ℕ × Rule). access.covers policy s t class perm r.1) (rules_in Allow policy)
          (λ r. and_right (access.joins policy s t r.1) (gives class perm r.1) (unnamed r.1 class perm h)),
    ) refl
