-- Policies without some of their unused rules.
use Rattle.std.proofs.Common.{◌≡◌, ◌∙◌, ℕ, ◌<◌, Bool, true, false, not, ◌&&◌, ◌||◌, List, [], ◌∷◌, ◌++◌}
use Rattle.std.proofs.Common.{get_or, is_some, refl, sym, ap, arith, cond, Option, Some, None, option_and_then, true≢false}
use Rattle.std.specs.Prelude.{find, option_map}
use Rattle.std.specs.List.{cons_option, list_any}
use Rattle.std.specs.Str.{bytes_eq}
use Rattle.std.proofs.lemmas.Bool.{and_right}
use Rattle.std.proofs.lemmas.List.Folds.{list_any-append, list_any_at}
use Rattle.std.proofs.lemmas.Slice.Eq.{bytes_eq-Decides}
use Rattle.sm_values.specs.declared.class.Class.{Class}
use Rattle.sm_values.specs.declared.perms.Perms.{Perms}
use Rattle.sm_values.specs.Permissions.{perm_of}
use Rattle.sm_ruletext.specs.Items.{Set}
use Rattle.sm_ruletext.specs.Kept.{is_kept}
use Rattle.sm_ruletext.specs.declared.rule.Rule.{Rule}
use Rattle.sm_ruletext.specs.declared.statement.RuleKind.{RuleKind}
use Rattle.sm_ruletext.specs.declared.statement.RuleKind.TheVariants.{Allow, Neverallow, Dontaudit}
use Rattle.sm_ruletext.specs.declared.statement.What.{What}
use Rattle.sm_ruletext.specs.declared.statement.What.TheVariants as what
use Rattle.sm_ruletext.specs.declared.statement.Statement.{Statement}
use Rattle.sm_types.specs.Names.{Name}
use Rattle.sm_types.specs.Denoting.{chosen, declares, gives_attribute, has_attribute, in_set, is_named, is_type_named, types}
use Rattle.sm_types.proofs.Accepted.{declares_type}
use Rattle.sm_rules.specs.Access as access
use Rattle.sm_rules.specs.Access.{covered_by, covers, covers_as, gives, joins, names_permissive, picks, rule_of}
use Rattle.sm_rules.specs.Keeping.{kept_only, rule_in, rules_in}
use Rattle.sm_rules.proofs.Consistent.{some_any}
use Rattle.sm_rules.proofs.Lines.{unkept}
use Rattle.sm_policy.specs.Policy.{Policy, allowed, audits, decision, silenced, written, written_at}
use Rattle.sm_questions.specs.Accesses.{perm_numbers}
use Rattle.sm_questions.proofs.Written.{written_if}
use Rattle.sm_questions.proofs.SingleAccess.{numbered}
use Rattle.sm_unused.specs.Removal.{Keep, KeepsUsed, covers_no_more, has_line, kept, kept_below}
use Rattle.sm_unused.specs.Unused.{covers_more, covers_new}

-- ---- tests of lists

same_any : {A : Type 0} (p q : A → Bool) (xs : List A) → ((x : A) → p x ≡ q x) → list_any p xs ≡ list_any q xs
same_any p q [] e = refl
same_any p q (x ∷ xs) e = rw (e x, same_any p q xs e) refl

same_find : {A : Type 0} (p q : A → Bool) (xs : List A) → ((x : A) → p x ≡ q x) → find p xs ≡ find q xs
same_find p q [] e = refl
same_find {A} p q (x ∷ xs) e = rw (e x, same_find p q xs e) refl

-- A test that a word passes is passed in a list that has the word.
passed : (w : Name) (p : Name → Bool) (xs : List Name) → list_any (bytes_eq w) xs ≡ true → p w ≡ true
    → list_any p xs ≡ true
passed w p [] there h = absurd (true≢false (sym there))
passed w p (x ∷ xs) there h = by (bytes_eq w x) refl there (λ g. passed w p xs g h) where
  or_true : (b : Bool) → (b || true) ≡ true
  or_true true = refl
  or_true false = refl

  by : (c : Bool) → bytes_eq w x ≡ c → (c || list_any (bytes_eq w) xs) ≡ true
      → (list_any (bytes_eq w) xs ≡ true → list_any p xs ≡ true) → (p x || list_any p xs) ≡ true
  by true e g rest = let same : w ≡ x = (bytes_eq-Decides w x).0 e in rw (← same, h) refl
  by false e g rest = rw (rest g) (or_true (p x))

both : (a b : Bool) → (a && b) ≡ true → (a ≡ true) × (b ≡ true)
both true true h = (refl, refl)
both true false h = absurd (true≢false (sym h))
both false b h = absurd (true≢false (sym h))

number_there : (b : ℕ) → b < 7 → get_or perm_numbers b 0 ≡ b
number_there b lt = grind arith

-- ---- a rule that covers an access

-- Its types are declared.
declared_target : (policy : List Statement) (s t : Name) (r : Rule) (a b : Bool) → declares policy s ≡ true
    → ((declares policy t && a) || (b && bytes_eq s t)) ≡ true → declares policy t ≡ true
declared_target policy s t r a b source h = by (declares policy t) (b && bytes_eq s t) refl refl h where
  by : (c d : Bool) → declares policy t ≡ c → (b && bytes_eq s t) ≡ d → ((c && a) || d) ≡ true → c ≡ true
  by true d e f g = refl
  by false true e f g = (let same : s ≡ t = (bytes_eq-Decides s t).0 (both b (bytes_eq s t) f).1 in
      absurd (true≢false (sym source ∙ rw same e)))
  by false false e f g = g

joined : (policy : List Statement) (s t : Name) (r : Rule) → joins policy s t r ≡ true
    → (declares policy s ≡ true) × (declares policy t ≡ true)
unfolding joins
joined policy s t r h =
    let parts = both (in_set policy r.source s) _ h in
    let source = (both (declares policy s) (chosen policy r.source s) parts.0).0 in
    (source, declared_target policy s t r (chosen policy r.target t) r.to_self source parts.1)

-- Its permission is a single one of the class.
single : (o : Option Name) (rule : Rule) → picks rule.perm o ≡ true → is_some o ≡ true
single None rule h = absurd (true≢false (sym h))
single (Some word) rule h = refl

given : (class : Class) (perm : Perms) (r : Rule) → gives class perm r ≡ true → is_some (perm_of class perm) ≡ true
unfolding gives
given class perm r h = single (perm_of class perm) r (both _ (picks r.perm (perm_of class perm)) h).1

-- It covers more than others that don't cover the access.
pub more_there : (policy : List Statement) (others : List (ℕ × Rule)) (r : Rule) (s t : Name) (class : Class)
    (perm : Perms) → covers policy s t class perm r ≡ true
    → list_any (λ (q : ℕ × Rule). covers policy s t class perm q.1) others ≡ false
    → covers_more policy others r ≡ true
unfolding covers_more
more_there policy others r s t class perm here none =
    let parts = both (joins policy s t r) (gives class perm r) here in
    let names = joined policy s t r parts.0 in
    let b = numbered class perm (given class perm r parts.1) in
    let new : covers_new policy others r s t b.0 ≡ true = rw (b.2, b.3, here, none) refl in
    passed s (λ x. list_any (λ y. list_any (covers_new policy others r x y) perm_numbers) (types policy)) (types policy)
    (declares_type s policy ∙ names.0)
    (passed t (λ y. list_any (covers_new policy others r s y) perm_numbers) (types policy)
    (declares_type t policy ∙ names.1)
    (list_any_at (covers_new policy others r s t) perm_numbers b.0 0 b.1 (rw (number_there b.0 b.1) new)))

-- The rules of a kind in some statements.
one_rule : (kind : RuleKind) (policy : List Statement) (s t : Name) (class : Class) (perm : Perms) (line : ℕ)
    (o : Option Rule) (rs : List (ℕ × Rule))
    → (covered_by policy s t class perm o || list_any (λ (q : ℕ × Rule). covers policy s t class perm q.1) rs)
    ≡ list_any (λ (q : ℕ × Rule). covers policy s t class perm q.1) (cons_option (option_and_then (kept_only line) o) rs)
one_rule kind policy s t class perm line None rs = refl
one_rule kind policy s t class perm line (Some r) rs = by (is_kept r) refl where
  by : (k : Bool) → is_kept r ≡ k
      → (covers policy s t class perm r || list_any (λ (q : ℕ × Rule). covers policy s t class perm q.1) rs)
      ≡ list_any (λ (q : ℕ × Rule). covers policy s t class perm q.1) (cons_option (cond k (Some (line, r)) None) rs)
  by true e = refl
  by false e = rw (and_right (joins policy s t r) (gives class perm r) (unkept r class perm e)) refl

among : (kind : RuleKind) (policy : List Statement) (s t : Name) (class : Class) (perm : Perms) (sts : List Statement)
    → list_any (covers_as kind policy s t class perm) sts
    ≡ list_any (λ (q : ℕ × Rule). covers policy s t class perm q.1) (rules_in kind sts)
among kind policy s t class perm [] = refl
among kind policy s t class perm (st ∷ sts) = rw (among kind policy s t class perm sts)
    (one_rule kind policy s t class perm st.line (rule_of st.what kind) (rules_in kind sts))

-- ---- a statement that has a line

-- A statement whose rule covers an access that others don't cover has no line for these others.
no_line : (kind : RuleKind) (policy : List Statement) (others : List (ℕ × Rule)) (s t : Name) (class : Class)
    (perm : Perms) (st : Statement) → covers_as kind policy s t class perm st ≡ true
    → list_any (λ (q : ℕ × Rule). covers policy s t class perm q.1) others ≡ false
    → covers_no_more policy others (rule_in kind st) ≡ false
no_line kind policy others s t class perm st here none = by (rule_of st.what kind) here where
  by : (o : Option Rule) → covered_by policy s t class perm o ≡ true
      → covers_no_more policy others (option_and_then (kept_only st.line) o) ≡ false
  by None h = refl
  by (Some r) h = kept_or (is_kept r) where
    kept_or : (k : Bool) → covers_no_more policy others (cond k (Some (st.line, r)) None) ≡ false
    kept_or true = rw (more_there policy others r s t class perm h none) refl
    kept_or false = refl

-- A statement of another kind of rule has none.
other_kind : (policy : List Statement) (others : List (ℕ × Rule)) (s t : Name) (class : Class) (perm : Perms)
    (st : Statement) → covers_as Allow policy s t class perm st ≡ true
    → covers_no_more policy others (rule_in Dontaudit st) ≡ false
other_kind policy others s t class perm st h = by st.what refl h where
  by : (w : What) → st.what ≡ w → covered_by policy s t class perm (rule_of w Allow) ≡ true
      → covers_no_more policy others (option_and_then (kept_only st.line) (rule_of st.what Dontaudit)) ≡ false
  by (what.Rule Allow r) e h = rw e refl
  by (what.Rule Neverallow r) e h = rw e refl
  by (what.Rule Dontaudit r) e h = absurd (true≢false (sym h))
  by (what.Attribute n) e h = rw e refl
  by (what.Declared n names) e h = rw e refl
  by (what.Member n names) e h = rw e refl
  by (what.Permissive n) e h = rw e refl

-- A statement that has a line is a rule: it declares nothing.
record IsPlain (st : Statement) : Type 0 where
  names : (t : Name) → is_type_named t st.what ≡ false
  given : (t a : Name) → gives_attribute t a st.what ≡ false
  permits : (t : Name) → names_permissive t st.what ≡ false

plain : (policy above : List Statement) (st : Statement) → has_line policy above st ≡ true → IsPlain st
plain policy above st h = by st.what refl where
  none : (w : What) → st.what ≡ w → rule_of w Allow ≡ None → rule_of w Dontaudit ≡ None → IsPlain st
  none w e f g = absurd (true≢false (sym (rw (e, f, g) at h)))

  by : (w : What) → st.what ≡ w → IsPlain st
  by (what.Rule kind r) e = record { names = λ t. rw e refl; given = λ t a. rw e refl; permits = λ t. rw e refl }
  by (what.Attribute n) e = none (what.Attribute n) e refl refl
  by (what.Declared n names) e = none (what.Declared n names) e refl refl
  by (what.Member n names) e = none (what.Member n names) e refl refl
  by (what.Permissive n) e = none (what.Permissive n) e refl refl

-- ---- the statements that are kept

kept_any : (keep : Keep) (p : Statement → Bool)
    → ((above : List Statement) (st : Statement) → keep above st ≡ false → p st ≡ false)
    → (above sts : List Statement) → list_any p (kept_below keep above sts) ≡ list_any p sts
kept_any keep p none above [] = refl
kept_any keep p none above (st ∷ sts) =
    by (keep above st) refl (kept_any keep p none (above ++ st ∷ []) sts) where
      by : (k : Bool) → keep above st ≡ k
          → list_any p (kept_below keep (above ++ st ∷ []) sts) ≡ list_any p sts
          → list_any p (cond k (st ∷ kept_below keep (above ++ st ∷ []) sts) (kept_below keep (above ++ st ∷ []) sts))
          ≡ (p st || list_any p sts)
      by true e rest = rw rest refl
      by false e rest = rw (none above st e) rest

module _ (policy : List Statement) (keep : Keep) (used : KeepsUsed policy keep) where
  abbrev rest : List Statement
  rest = kept_below keep [] policy

  same_declares : (t : Name) → declares rest t ≡ declares policy t
  same_declares t = kept_any keep (λ st. is_type_named t st.what)
      (λ above st e. (plain policy above st (used above st e)).names t) [] policy

  same_attribute : (t a : Name) → has_attribute rest t a ≡ has_attribute policy t a
  same_attribute t a = kept_any keep (λ st. gives_attribute t a st.what)
      (λ above st e. (plain policy above st (used above st e)).given t a) [] policy

  same_permissive : (t : Name) → access.is_permissive rest t ≡ access.is_permissive policy t
  same_permissive t = kept_any keep (λ st. names_permissive t st.what)
      (λ above st e. (plain policy above st (used above st e)).permits t) [] policy

  same_named : (t word : Name) → is_named rest t word ≡ is_named policy t word
  same_named t word = rw (same_attribute t word) refl

  same_chosen : (set : Set) (t : Name) → chosen rest set t ≡ chosen policy set t
  unfolding chosen
  same_chosen set t = rw (
    same_any (is_named rest t) (is_named policy t) set.plus (same_named t),
    same_any (is_named rest t) (is_named policy t) set.minus (same_named t),
  ) refl

  same_set : (set : Set) (t : Name) → in_set rest set t ≡ in_set policy set t
  same_set set t = rw (same_declares t, same_chosen set t) refl

  same_joins : (s t : Name) (r : Rule) → joins rest s t r ≡ joins policy s t r
  unfolding joins
  same_joins s t r = rw (same_set r.source s, same_set r.target t) refl

  module _ (s t : Name) (class : Class) (perm : Perms) where
    same_by : (o : Option Rule) → covered_by rest s t class perm o ≡ covered_by policy s t class perm o
    same_by None = refl
    same_by (Some r) = rw (same_joins s t r) refl

    same_as : (kind : RuleKind) (st : Statement)
        → covers_as kind rest s t class perm st ≡ covers_as kind policy s t class perm st
    same_as kind st = same_by (rule_of st.what kind)

    -- The first rule that grants the access is kept.
    first_kept : (above sts : List Statement) → list_any (covers_as Allow policy s t class perm) above ≡ false
        → find (covers_as Allow policy s t class perm) (kept_below keep above sts)
        ≡ find (covers_as Allow policy s t class perm) sts
    first_kept above [] none = refl
    first_kept above (st ∷ sts) none = by (covers_as Allow policy s t class perm st) (keep above st) refl refl
        (λ e. first_kept (above ++ st ∷ []) sts
        (list_any-append (covers_as Allow policy s t class perm) above (st ∷ []) ∙ rw (none, e) refl)) where
          lost : covers_as Allow policy s t class perm st ≡ true → keep above st ≡ false → ⊥
          lost e k =
              let no = no_line Allow policy (rules_in Allow above) s t class perm st e
              (sym (among Allow policy s t class perm above) ∙ none) in
              let other = other_kind policy (rules_in Allow policy) s t class perm st e in
              true≢false (sym (used above st k) ∙ rw (no, other) refl)

          by : (c k : Bool) → covers_as Allow policy s t class perm st ≡ c → keep above st ≡ k
              → (covers_as Allow policy s t class perm st ≡ false
              → find (covers_as Allow policy s t class perm) (kept_below keep (above ++ st ∷ []) sts)
              ≡ find (covers_as Allow policy s t class perm) sts)
              → find (covers_as Allow policy s t class perm) (cond k (st ∷ kept_below keep (above ++ st ∷ []) sts)
              (kept_below keep (above ++ st ∷ []) sts))
              ≡ cond c (Some st) (find (covers_as Allow policy s t class perm) sts)
          by true true e k next = rw e refl
          by true false e k next = absurd (lost e k)
          by false true e k next = rw e (next e)
          by false false e k next = next e

    same_line : access.written_line rest s t class perm ≡ access.written_line policy s t class perm
    same_line = ap (option_map (λ (st : Statement). st.line))
        (same_find (covers_as Allow rest s t class perm) (covers_as Allow policy s t class perm) rest (same_as Allow)
        ∙ first_kept [] policy refl)

    -- Where no rule grants the access, a dontaudit rule that covers it is kept.
    silent_kept : access.written policy s t class perm ≡ false → (above : List Statement) (st : Statement)
        → keep above st ≡ false → covers_as Dontaudit policy s t class perm st ≡ false
    silent_kept none above st k = by (covers_as Dontaudit policy s t class perm st) refl where
      unwritten : list_any (λ (q : ℕ × Rule). covers policy s t class perm q.1) (rules_in Allow policy) ≡ false
      unwritten = sym (some_any Allow policy s t class perm) ∙ none

      not_allow : (w : What) → st.what ≡ w → covered_by policy s t class perm (rule_of w Dontaudit) ≡ true
          → rule_of st.what Allow ≡ None
      not_allow (what.Rule Allow r) e h = absurd (true≢false (sym h))
      not_allow (what.Rule Neverallow r) e h = absurd (true≢false (sym h))
      not_allow (what.Rule Dontaudit r) e h = rw e refl
      not_allow (what.Attribute n) e h = rw e refl
      not_allow (what.Declared n names) e h = rw e refl
      not_allow (what.Member n names) e h = rw e refl
      not_allow (what.Permissive n) e h = rw e refl

      by : (c : Bool) → covers_as Dontaudit policy s t class perm st ≡ c → c ≡ false
      by false e = refl
      by true e =
          let no = no_line Dontaudit policy (rules_in Allow policy) s t class perm st e unwritten in
          let other = not_allow st.what refl e in
          absurd (true≢false (sym (used above st k) ∙ rw (other, no) refl))

    same_silenced : access.written policy s t class perm ≡ false
        → access.silenced rest s t class perm ≡ access.silenced policy s t class perm
    same_silenced none =
        same_any (covers_as Dontaudit rest s t class perm) (covers_as Dontaudit policy s t class perm) rest
        (same_as Dontaudit)
        ∙ kept_any keep (covers_as Dontaudit policy s t class perm) (silent_kept none) [] policy

-- ---- the policy of the statements that are kept

pub granted_as_before : (policy : Policy) (keep : Keep) (s t : List ℕ) (class : Class) (perm : Perms)
    → KeepsUsed policy.statements keep → written_at (kept policy keep) s t class perm ≡ written_at policy s t class perm
unfolding written_at
granted_as_before policy keep s t class perm used = same_line policy.statements keep used s t class perm

written_as_before : (policy : Policy) (keep : Keep) (s t : List ℕ) (class : Class) (perm : Perms)
    → KeepsUsed policy.statements keep → written (kept policy keep) s t class perm ≡ written policy s t class perm
written_as_before policy keep s t class perm used = sym (written_if (kept policy keep) s t class perm)
    ∙ ap is_some (granted_as_before policy keep s t class perm used) ∙ written_if policy s t class perm

allowed_as_before : (policy : Policy) (keep : Keep) (s t : List ℕ) (class : Class) (perm : Perms)
    → KeepsUsed policy.statements keep → allowed (kept policy keep) s t class perm ≡ allowed policy s t class perm
unfolding allowed
allowed_as_before policy keep s t class perm used = rw (
  written_as_before policy keep s t class perm used,
  same_permissive policy.statements keep used s,
  same_declares policy.statements keep used t,
) refl

audits_as_before : (policy : Policy) (keep : Keep) (s t : List ℕ) (class : Class) (perm : Perms)
    → KeepsUsed policy.statements keep → audits (kept policy keep) s t class perm ≡ audits policy s t class perm
unfolding audits
audits_as_before policy keep s t class perm used =
    rw (written_as_before policy keep s t class perm used) (by (written policy s t class perm) refl) where
      by : (w : Bool) → written policy s t class perm ≡ w
          → (not w && not (silenced (kept policy keep) s t class perm)) ≡ (not w && not (silenced policy s t class perm))
      by true e = refl
      by false e = rw (same_silenced policy.statements keep used s t class perm e) refl

pub decided_as_before : (policy : Policy) (keep : Keep) (s t : List ℕ) (class : Class) (perm : Perms)
    → KeepsUsed policy.statements keep → decision (kept policy keep) s t class perm ≡ decision policy s t class perm
decided_as_before policy keep s t class perm used = rw (
  allowed_as_before policy keep s t class perm used,
  audits_as_before policy keep s t class perm used,
) refl
