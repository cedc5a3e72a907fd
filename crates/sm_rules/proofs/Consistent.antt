-- What is written is what the kept rules cover, in whichever way they are listed.
use Rattle.std.proofs.Common.{◌≡◌, ℕ, zero, suc, ◌<◌, Bool, true, false, ◌||◌, List, [], ◌∷◌, length, Some, None}
use Rattle.std.proofs.Common.{Option, refl, sym, ◌∙◌, slice_get, cond, option_and_then}
use Rattle.std.specs.List.{list_any, cons_option}
use Rattle.std.proofs.lemmas.Bool.{and_right}
use Rattle.sm_values.specs.Permissions.{perm_of}
use Rattle.sm_values.specs.declared.class.Class.{Class}
use Rattle.sm_values.specs.declared.perms.Perms.{Perms}
use Rattle.sm_ruletext.specs.Kept.{is_kept}
use Rattle.sm_ruletext.specs.declared.rule.Rule.{Rule}
use Rattle.sm_ruletext.specs.declared.statement.RuleKind.{RuleKind}
use Rattle.sm_ruletext.specs.declared.statement.RuleKind.TheVariants.{Dontaudit}
use Rattle.sm_ruletext.specs.declared.statement.Statement.{Statement}
use Rattle.sm_types.specs.Names.{Name, at, Distinct}
use Rattle.sm_types.specs.Denoting.{Policy}
use Rattle.sm_rules.specs.Access as access
use Rattle.sm_rules.specs.Access.{rule_of, gives, some_covers, silenced}
use Rattle.sm_rules.specs.Keeping.{class_at, perm_at, covered, StandsFor, AllStandFor, Says, AllSay, KeptRules}
use Rattle.sm_rules.specs.Keeping.{RulesOf, kept_only, rules_in, of_kind}
use Rattle.sm_rules.specs.declared.kept.Kept.{Kept}
use Rattle.sm_rules.proofs.Lines.{unkept, unnamed, stands_covers}

-- ---- rules of the text as statements and as lists

-- A rule that isn't kept covers nothing.
one_rule : (policy : Policy) (s t : Name) (class : Class) (perm : Perms) (line : ℕ) (o : Option Rule)
    (rs : List (ℕ × Rule))
    → (access.covered_by policy s t class perm o
    || list_any (λ (q : ℕ × Rule). access.covers policy s t class perm q.1) rs)
    ≡ list_any (λ (q : ℕ × Rule). access.covers policy s t class perm q.1)
    (cons_option (option_and_then (kept_only line) o) rs)
one_rule policy s t class perm line None rs = refl
one_rule policy s t class perm line (Some r) rs = by (is_kept r) refl where
  by : (k : Bool) → is_kept r ≡ k
      → (access.covers policy s t class perm r || list_any (λ (q : ℕ × Rule). access.covers policy s t class perm q.1)
      rs)
      ≡ list_any (λ (q : ℕ × Rule). access.covers policy s t class perm q.1)
      (cons_option (cond k (Some (line, r)) None) rs)
  by true e = refl
  by false e = rw (and_right (access.joins policy s t r) (gives class perm r) (unkept r class perm e)) refl

-- Some rule of the kind covers a tuple where some rule of the list does.
pub some_any : (kind : RuleKind) (policy : Policy) (s t : Name) (class : Class) (perm : Perms)
    → some_covers kind policy s t class perm
    ≡ list_any (λ (r : ℕ × Rule). access.covers policy s t class perm r.1) (rules_in kind policy)
some_any kind policy s t class perm = among policy where
  among : (sts : List Statement) → list_any (access.covers_as kind policy s t class perm) sts
      ≡ list_any (λ (r : ℕ × Rule). access.covers policy s t class perm r.1) (rules_in kind sts)
  among [] = refl
  among (st ∷ sts) =
      rw (among sts) (one_rule policy s t class perm st.line (rule_of st.what kind) (rules_in kind sts))

-- ---- kept rules and the rules that they represent, index by index

stands_at : (policy : Policy) (names : List Name) (rs : List (ℕ × Rule)) (ks : List Kept) (n : ℕ) (k : Kept)
    → AllStandFor policy names rs ks → slice_get ks n ≡ Some k
    → (r : ℕ × Rule) × (slice_get rs n ≡ Some r) × StandsFor policy names r k
stands_at policy names [] [] n k all found = absurd (cc found)
stands_at policy names [] (j ∷ ks) n k all found = absurd all
stands_at policy names (r ∷ rs) [] n k all found = absurd all
stands_at policy names (r ∷ rs) (j ∷ ks) zero k all found = (let e : j ≡ k = cc found in (r, refl, rw (← e) all.0))
stands_at policy names (r ∷ rs) (j ∷ ks) (suc n) k all found = stands_at policy names rs ks n k all.1 found

kept_at : (policy : Policy) (names : List Name) (rs : List (ℕ × Rule)) (ks : List Kept) (n : ℕ) (r : ℕ × Rule)
    → AllStandFor policy names rs ks → slice_get rs n ≡ Some r
    → (k : Kept) × (slice_get ks n ≡ Some k) × StandsFor policy names r k
kept_at policy names [] [] n r all found = absurd (cc found)
kept_at policy names [] (j ∷ ks) n r all found = absurd all
kept_at policy names (q ∷ rs) [] n r all found = absurd all
kept_at policy names (q ∷ rs) (j ∷ ks) zero r all found = (let e : q ≡ r = cc found in (j, refl, rw (← e) all.0))
kept_at policy names (q ∷ rs) (j ∷ ks) (suc n) r all found = kept_at policy names rs ks n r all.1 found

-- ---- kept rules by number

says : (policy : Policy) (names : List Name) (r : ℕ × Rule) (k : Kept) → Distinct names → StandsFor policy names r k
    → Says policy names r k
says policy names r k distinct stands = record {
  line = stands.line;
  covers = λ b s t low hs ht. stands_covers policy names r k b s t distinct hs ht low stands;
}

pub all_say : (policy : Policy) (names : List Name) (rs : List (ℕ × Rule)) (ks : List Kept) → Distinct names
    → AllStandFor policy names rs ks → AllSay policy names rs ks
all_say policy names rs ks distinct all = record {
  of_kept = λ n k found. (let r = stands_at policy names rs ks n k all found in
      (r.0, r.1, says policy names r.0 k distinct r.2));
  of_rule = λ n r found. (let k = kept_at policy names rs ks n r all found in
      (k.0, k.1, says policy names r k.0 distinct k.2));
}

covered_any : (policy : Policy) (names : List Name) (rs : List (ℕ × Rule)) (ks : List Kept) (b s t : ℕ) → Distinct names
    → s < length names → t < length names → b < 7 → AllStandFor policy names rs ks
    → covered ks b s t ≡ list_any (λ (r : ℕ × Rule). access.covers policy (at names s) (at names t) (class_at b)
    (perm_at b) r.1) rs
covered_any policy names [] [] b s t distinct hs ht low all = refl
covered_any policy names [] (k ∷ ks) b s t distinct hs ht low all = absurd all
covered_any policy names (r ∷ rs) [] b s t distinct hs ht low all = absurd all
covered_any policy names (r ∷ rs) (k ∷ ks) b s t distinct hs ht low all =
    rw (
      stands_covers policy names r k b s t distinct hs ht low all.0,
      covered_any policy names rs ks b s t distinct hs
          ht low all.1,
    ) refl

pub covered_is : (kind : RuleKind) (policy : Policy) (names : List Name) (rules : KeptRules) (ks : List Kept)
    (b s t : ℕ) → RulesOf policy names rules → ks ≡ of_kind kind rules
    → b < 7 → s < length names → t < length names
    → covered ks b s t ≡ some_covers kind policy (at names s) (at names t) (class_at b) (perm_at b)
covered_is kind policy names rules ks b s t is same low hs ht =
    covered_any policy names (rules_in kind policy) ks b s t is.distinct hs ht low (rw same (is.kept kind))
    ∙ sym (some_any kind policy (at names s) (at names t) (class_at b) (perm_at b))

none_any : {X : Type 0} (p : X → Bool) (xs : List X) → ((x : X) → p x ≡ false) → list_any p xs ≡ false
none_any p [] fails = refl
none_any p (x ∷ xs) fails = rw (fails x) (none_any p xs fails)

-- What the kept dontaudit rules say by number is what the text says by name.
pub silenced_is : (policy : Policy) (names : List Name) (rules : KeptRules) (b s t : ℕ) (class : Class) (perm : Perms)
    → RulesOf policy names rules
    → s < length names → t < length names → (b < 7) × (class_at b ≡ class) × (perm_at b ≡ perm)
    → covered rules.silences b s t ≡ silenced policy (at names s) (at names t) class perm
silenced_is policy names rules b s t class perm is hs ht hb =
    rw (← hb.1, ← hb.2) (covered_is Dontaudit policy names rules rules.silences b s t is refl hb.0 hs ht)

-- Some rule of the kind covers only what some rule covers.
pub uncovered : (kind : RuleKind) (policy : Policy) (s t : Name) (class : Class) (perm : Perms)
    → ((r : Rule) → access.covers policy s t class perm r ≡ false) → some_covers kind policy s t class perm ≡ false
uncovered kind policy s t class perm none =
    some_any kind policy s t class perm
    ∙ none_any (λ (r : ℕ × Rule). access.covers policy s t class perm r.1) (rules_in kind policy) (λ r. none r.1)

-- Nothing is covered of what is no single permission of the class.
pub no_single : (kind : RuleKind) (policy : Policy) (s t : Name) (class : Class) (perm : Perms)
    → perm_of class perm ≡ None → some_covers kind policy s t class perm ≡ false
no_single kind policy s t class perm h = uncovered kind policy s t class perm
    (λ r. and_right (access.joins policy s t r) (gives class perm r) (unnamed r class perm h))
