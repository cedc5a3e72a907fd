-- Rules that are listed for a single access.
use Rattle.std.proofs.Common.{◌≡◌, ◌∙◌, ℕ, zero, suc, ◌<◌, Bool, true, false, ◌&&◌, ◌||◌, List, [], ◌∷◌, ◌++◌}
use Rattle.std.proofs.Common.{inl, inr, Option, Some, None, is_some, refl, sym, ap, arith, cond, true≢false}
use Rattle.std.specs.Prelude.{filter, find, option_map, slice_get}
use Rattle.std.specs.List.{flat_map, list_any}
use Rattle.std.specs.Str.{bytes_eq}
use Rattle.std.proofs.lemmas.Bool.{cases_eq, ne_eqb}
use Rattle.std.proofs.lemmas.Slice.Eq.{bytes_eq-Decides}
use Rattle.sm_bits.specs.Bits.{has_bit}
use Rattle.sm_values.specs.declared.class.Class.{Class, TheVariants.ServiceManager, TheVariants.Binder}
use Rattle.sm_values.specs.declared.perms.Perms.{Perms}
use Rattle.sm_values.specs.Permissions.{bit, binder_word, perm_of, service_manager_word}
use Rattle.sm_ruletext.specs.declared.rule.Rule.{Rule}
use Rattle.sm_ruletext.specs.declared.statement.RuleKind.TheVariants.{Allow}
use Rattle.sm_types.specs.Names.{Name}
use Rattle.sm_types.specs.Denoting.{declares, types}
use Rattle.sm_types.proofs.Accepted.{declares_type}
use Rattle.sm_rules.specs.Access.{covers}
use Rattle.sm_rules.specs.Keeping.{class_at, perm_at, rules_in}
use Rattle.sm_rules.proofs.Lines.{lines_of}
use Rattle.sm_policy.specs.Policy.{Policy, written, written_at}
use Rattle.sm_questions.specs.Accesses.{perm_numbers}
use Rattle.sm_questions.specs.RuleLaws.{LeavesOne}
use Rattle.sm_questions.specs.RuleLines.{covers_left, covers_some, listed_rules, rule_lines}
use Rattle.sm_questions.specs.Shown.{shown_statement}
use Rattle.sm_questions.specs.declared.filtering.Filter.{Filter}
use Rattle.sm_questions.specs.declared.rule_filter.RuleFilter.{RuleFilter}
use Rattle.sm_questions.proofs.Written.{written_if}

-- ---- tests of lists

same_any : {A : Type 0} (p q : A → Bool) (xs : List A) → ((x : A) → p x ≡ q x) → list_any p xs ≡ list_any q xs
same_any p q [] e = refl
same_any p q (x ∷ xs) e = rw (e x, same_any p q xs e) refl

or_none : (b : Bool) → (b || false) ≡ b
or_none true = refl
or_none false = refl

or_and : (l g : Bool) → (g || (l && g)) ≡ g
or_and true true = refl
or_and true false = refl
or_and false true = refl
or_and false false = refl

moved : (a b c : Bool) → ((a && b) && c) ≡ (b && (a && c))
moved true true c = refl
moved true false c = refl
moved false true c = refl
moved false false c = refl

-- Of items that are a word the test is that of the word.
of_word : (t : Name) (g : Name → Bool) (xs : List Name)
    → list_any (λ x. bytes_eq t x && g x) xs ≡ (list_any (bytes_eq t) xs && g t)
of_word t g [] = refl
of_word t g (x ∷ xs) = by (bytes_eq t x) refl (of_word t g xs) where
  by : (c : Bool) → bytes_eq t x ≡ c → list_any (λ y. bytes_eq t y && g y) xs ≡ (list_any (bytes_eq t) xs && g t)
      → ((c && g x) || list_any (λ y. bytes_eq t y && g y) xs) ≡ ((c || list_any (bytes_eq t) xs) && g t)
  by true e rest = let same : t ≡ x = (bytes_eq-Decides t x).0 e in
      rw (rest, ← same) (or_and (list_any (bytes_eq t) xs) (g t))
  by false e rest = rest

one_word : (t : Name) (g : Name → Bool) (xs : List Name) → list_any (bytes_eq t) xs ≡ true
    → list_any (λ x. bytes_eq t x && g x) xs ≡ g t
one_word t g xs there = of_word t g xs ∙ rw there refl

one_perm : (b : ℕ) → b < 7 → (l : Bool) (f : ℕ → Bool)
    → list_any (λ c. l && (has_bit (perm_at b).0 c && f c)) perm_numbers ≡ (l && f b)
unfolding has_bit
one_perm b low false f = refl
one_perm zero low true f = or_none (f 0)
one_perm (suc zero) low true f = or_none (f 1)
one_perm (suc (suc zero)) low true f = or_none (f 2)
one_perm (suc (suc (suc zero))) low true f = or_none (f 3)
one_perm (suc (suc (suc (suc zero)))) low true f = or_none (f 4)
one_perm (suc (suc (suc (suc (suc zero))))) low true f = or_none (f 5)
one_perm (suc (suc (suc (suc (suc (suc zero)))))) low true f = or_none (f 6)
one_perm (suc (suc (suc (suc (suc (suc (suc b))))))) low true f = absurd (omega arith)

-- ---- a single permission has a number

of_manager : (n : ℕ) → is_some (service_manager_word n) ≡ true
    → (b : ℕ) × (b < 7) × (class_at b ≡ ServiceManager) × (perm_at b ≡ bit n)
of_manager n h = elim (cases_eq n 1) [
  | inl e ↦ (0, omega arith, refl, rw e refl)
  | inr a ↦ elim (cases_eq n 2) [
    | inl e ↦ (1, omega arith, refl, rw e refl)
    | inr b ↦ elim (cases_eq n 4) [
      | inl e ↦ (2, omega arith, refl, rw e refl)
      | inr d ↦ absurd (true≢false (sym (rw (ne_eqb n 1 a, ne_eqb n 2 b, ne_eqb n 4 d) at h)))
    ]
  ]
]

of_binder : (n : ℕ) → is_some (binder_word n) ≡ true
    → (b : ℕ) × (b < 7) × (class_at b ≡ Binder) × (perm_at b ≡ bit n)
of_binder n h = elim (cases_eq n 8) [
  | inl e ↦ (3, omega arith, refl, rw e refl)
  | inr a ↦ elim (cases_eq n 16) [
    | inl e ↦ (4, omega arith, refl, rw e refl)
    | inr b ↦ elim (cases_eq n 32) [
      | inl e ↦ (5, omega arith, refl, rw e refl)
      | inr d ↦ elim (cases_eq n 64) [
        | inl e ↦ (6, omega arith, refl, rw e refl)
        | inr f ↦ absurd (true≢false (sym (rw (ne_eqb n 8 a, ne_eqb n 16 b, ne_eqb n 32 d, ne_eqb n 64 f) at h)))
      ]
    ]
  ]
]

pub numbered : (class : Class) (perm : Perms) → is_some (perm_of class perm) ≡ true
    → (b : ℕ) × (b < 7) × (class_at b ≡ class) × (perm_at b ≡ perm)
numbered ServiceManager perm h = of_manager perm.0 h
numbered Binder perm h = of_binder perm.0 h

-- ---- a rule covers something that is left if it covers the access

module _ (policy : Policy) (accesses : Filter) (s t : Name) (class : Class) (perm : Perms)
    (one : LeavesOne policy accesses s t class perm) where
  there : (word : Name) → declares policy.statements word ≡ true
      → list_any (bytes_eq word) (types policy.statements) ≡ true
  there word h = declares_type word policy.statements ∙ h

  of_perms : (r : Rule) (from to : Name) → list_any (covers_left policy.statements accesses r from to) perm_numbers
      ≡ ((bytes_eq s from && bytes_eq t to) && covers policy.statements from to class perm r)
  unfolding covers_left
  of_perms r from to =
      let b = numbered class perm one.single in
      let all = one_perm b.0 b.1 (bytes_eq s from && bytes_eq t to)
      (λ c. covers policy.statements from to (class_at c) (perm_at c) r) in
      rw (one.source, one.target, one.perms) (rw (b.2, b.3) at all)

  pub covers_one : (r : Rule) → covers_some policy.statements accesses r ≡ covers policy.statements s t class perm r
  unfolding covers_some
  covers_one r =
      let names = types policy.statements in
      let g = λ (from to : Name). covers policy.statements from to class perm r in
      same_any (λ (from : Name). list_any (λ (to : Name). list_any (covers_left policy.statements accesses r from to)
      perm_numbers) names) (λ (from : Name). bytes_eq s from && g from t) names (λ from.
      same_any (λ (to : Name). list_any (covers_left policy.statements accesses r from to) perm_numbers)
      (λ (to : Name). bytes_eq t to && (bytes_eq s from && g from to)) names
      (λ to. of_perms r from to ∙ moved (bytes_eq s from) (bytes_eq t to) (g from to))
      ∙ one_word t (λ (to : Name). bytes_eq s from && g from to) names (there t one.target_declared))
      ∙ one_word s (λ (from : Name). g from t) names (there s one.source_declared)

-- ---- the first rule that is listed

first_kept : {A : Type 0} (p q : A → Bool) (xs : List A) → ((x : A) → p x ≡ q x)
    → slice_get (filter p xs) 0 ≡ find q xs
first_kept p q [] e = refl
first_kept {A} p q (x ∷ xs) e = rw (e x) (by (q x) (first_kept p q xs e)) where
  by : (c : Bool) → slice_get (filter p xs) 0 ≡ find q xs
      → slice_get (cond c (x ∷ filter p xs) (filter p xs)) 0 ≡ cond c (Some x) (find q xs)
  by true rest = refl
  by false rest = rest

pub first_rule : (policy : Policy) (asked : RuleFilter) (s t : List ℕ) (class : Class) (perm : Perms)
    → asked.kind ≡ Some Allow → LeavesOne policy asked.accesses s t class perm
    → option_map (λ (r : ℕ × Rule). r.0) (slice_get (listed_rules policy asked) 0) ≡ written_at policy s t class perm
unfolding listed_rules written_at
first_rule policy asked s t class perm kind one =
    rw kind (ap (λ (o : Option (ℕ × Rule)). option_map (λ (r : ℕ × Rule). r.0) o)
    (first_kept (λ (r : ℕ × Rule). covers_some policy.statements asked.accesses r.1)
    (λ (r : ℕ × Rule). covers policy.statements s t class perm r.1) (rules_in Allow policy.statements)
    (λ r. covers_one policy asked.accesses s t class perm one r.1)))
    ∙ sym (lines_of policy.statements s t class perm policy.statements)

head_lines : {A : Type 0} (f : A → List ℕ) (xs : List A) (x : A) → slice_get xs 0 ≡ Some x
    → (more : List ℕ) × (flat_map f xs ≡ f x ++ more)
head_lines f [] x h = absurd cc
head_lines f (y ∷ xs) x h = let same : y ≡ x = cc in (flat_map f xs, rw same refl)

no_lines : {A : Type 0} (f : A → List ℕ) (xs : List A) → slice_get xs 0 ≡ None → flat_map f xs ≡ []
no_lines f [] h = refl
no_lines f (y ∷ xs) h = absurd cc

mapped : (o : Option (ℕ × Rule)) (n : ℕ) → option_map (λ (r : ℕ × Rule). r.0) o ≡ Some n
    → (r : ℕ × Rule) × (o ≡ Some r) × (r.0 ≡ n)
mapped None n h = absurd cc
mapped (Some r) n h = (r, refl, cc)

unmapped : (o : Option (ℕ × Rule)) → option_map (λ (r : ℕ × Rule). r.0) o ≡ None → o ≡ None
unmapped None h = refl
unmapped (Some r) h = absurd cc

pub first_line : (path text : List ℕ) (policy : Policy) (asked : RuleFilter) (s t : List ℕ) (class : Class)
    (perm : Perms) (line : ℕ) → asked.kind ≡ Some Allow → LeavesOne policy asked.accesses s t class perm
    → written_at policy s t class perm ≡ Some line
    → (more : List ℕ) × (rule_lines path text policy asked ≡ shown_statement path text line ++ more)
unfolding rule_lines
first_line path text policy asked s t class perm line kind one is =
    let r = mapped (slice_get (listed_rules policy asked) 0) line
    (first_rule policy asked s t class perm kind one ∙ is) in
    rw r.2 at (head_lines (λ (q : ℕ × Rule). shown_statement path text q.0) (listed_rules policy asked) r.0 r.1)

unfound : (o : Option ℕ) → is_some o ≡ false → o ≡ None
unfound None h = refl
unfound (Some n) h = absurd (true≢false h)

pub no_line : (path text : List ℕ) (policy : Policy) (asked : RuleFilter) (s t : List ℕ) (class : Class)
    (perm : Perms) → asked.kind ≡ Some Allow → LeavesOne policy asked.accesses s t class perm
    → written policy s t class perm ≡ false → rule_lines path text policy asked ≡ []
unfolding rule_lines
no_line path text policy asked s t class perm kind one none =
    let unwritten = unfound (written_at policy s t class perm) (written_if policy s t class perm ∙ none) in
    no_lines (λ (q : ℕ × Rule). shown_statement path text q.0) (listed_rules policy asked)
    (unmapped (slice_get (listed_rules policy asked) 0) (first_rule policy asked s t class perm kind one ∙ unwritten))
