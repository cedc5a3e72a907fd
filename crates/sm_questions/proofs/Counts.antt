-- What the counts of the lines for rules add up to.
use Rattle.std.proofs.Common.{◌≡◌, ◌∙◌, ℕ, zero, suc, ◌+◌, ◌<◌, ◌≤◌, Bool, ◌||◌, cond, List, [], ◌∷◌, ◌++◌, map}
use Rattle.std.proofs.Common.{Option, None, Some, length, nat_lt, refl, sym, ap, inl, inr, arith}
use Rattle.std.specs.Prelude.{count_by}
use Rattle.std.specs.List.{flat_map, sum_by}
use Rattle.std.proofs.lemmas.Bool.{cases_eq, eq-eqb, ne_eqb}
use Rattle.std.proofs.lemmas.Bool.Decides.{nat_tests}
use Rattle.std.proofs.lemmas.List.Sums.{sum_by-append, sum_by-cons}
use Rattle.sm_policy.specs.Policy.{Policy}
use Rattle.sm_questions.specs.Differences.{differences, is_any, lost, lost_line, rest}
use Rattle.sm_questions.specs.RuleChanges.{Access, access_text, counted, granting_line, granting_lines, granting_words}
use Rattle.sm_questions.specs.RuleChanges.{is_same_line, lost_accesses, lost_by, numbers_from, rule_changes}
use Rattle.sm_questions.specs.RuleChanges.{rule_differences}
use Rattle.sm_questions.specs.Tallies.{end_of}
use Rattle.sm_questions.proofs.Anything.{any_both}
use Rattle.sm_questions.proofs.Tallied.{all_text, line_before}

-- ---- each line is once among the lines that are counted

-- This is the number of elements of a list that are the line.
times : Option ℕ → List (Option ℕ) → ℕ
times line lines = count_by (λ l. is_same_line l line) lines

no_number : (n first k : ℕ) → n < first → times (Some n) (map Some (numbers_from first k)) ≡ 0
unfolding times
no_number n first zero lt = refl
no_number n first (suc k) lt =
    let rest = no_number n (first + 1) k (omega (arith, lt)) in
    sum_by-cons (λ l. cond (is_same_line l (Some n)) 1 0) (Some first) (map Some (numbers_from (first + 1) k))
    ∙ rw (ne_eqb first n (λ e. absurd (omega (arith, lt, e))), rest) refl

one_number : (n first k : ℕ) → first ≤ n → n < first + k → times (Some n) (map Some (numbers_from first k)) ≡ 1
unfolding times
one_number n first zero le lt = absurd (omega (arith, le, lt))
one_number n first (suc k) le lt =
    sum_by-cons (λ l. cond (is_same_line l (Some n)) 1 0) (Some first) (map Some (numbers_from (first + 1) k))
    ∙ elim (cases_eq first n) [
      | inl e ↦ rw (eq-eqb first n e, no_number n (first + 1) k (omega (arith, e))) refl
      | inr other ↦ rw (
        ne_eqb first n other,
        one_number n (first + 1) k (omega (arith, le, other)) (omega (arith, lt)),
      ) refl
    ]

none_number : (first k : ℕ) → times None (map Some (numbers_from first k)) ≡ 0
unfolding times
none_number first zero = refl
none_number first (suc k) =
    sum_by-cons (λ l. cond (is_same_line l None) 1 0) (Some first) (map Some (numbers_from (first + 1) k))
    ∙ rw (none_number (first + 1) k) refl

once : (policy : Policy) (a : Access) → times (granting_line policy a) (granting_lines policy) ≡ 1
unfolding times
once policy a = by (granting_line policy a) refl where
  numbers : List (Option ℕ)
  numbers = map Some (numbers_from 0 (end_of policy))

  by : (o : Option ℕ) → granting_line policy a ≡ o → times o (granting_lines policy) ≡ 1
  by None is =
      sum_by-append (λ l. cond (is_same_line l None) 1 0) (map Some (numbers_from 0 (end_of policy))) (None ∷ [])
      ∙ rw (none_number 0 (end_of policy)) refl
  by (Some n) is =
      sum_by-append (λ l. cond (is_same_line l (Some n)) 1 0) (map Some (numbers_from 0 (end_of policy))) (None ∷ [])
      ∙ rw (one_number n 0 (end_of policy) (omega arith)
      (let low = line_before policy a n is in omega (arith, low))) refl

-- ---- the sum

sum_zero : {A : Type 0} (xs : List A) → sum_by (λ (x : A). 0) xs ≡ 0
sum_zero [] = refl
sum_zero {A} (x ∷ xs) =
    let first = sum_by-cons (λ (y : A). 0) x xs in
    let rest = sum_zero xs in
    omega (arith, first, rest)

sum_both : {A : Type 0} (f g h : A → ℕ) (xs : List A) → ((x : A) → h x ≡ f x + g x)
    → sum_by h xs ≡ sum_by f xs + sum_by g xs
sum_both f g h [] each = refl
sum_both f g h (x ∷ xs) each =
    let a = sum_by-cons f x xs in
    let b = sum_by-cons g x xs in
    let c = sum_by-cons h x xs in
    let here = each x in
    let more = sum_both f g h xs each in
    omega (arith, a, b, c, here, more)

sum_of : (policy : Policy) (xs : List Access)
    → sum_by (λ l. count_by (λ a. is_same_line l (granting_line policy a)) xs) (granting_lines policy) ≡ length xs
unfolding times
sum_of policy [] = sum_zero (granting_lines policy)
sum_of policy (a ∷ xs) =
    sum_both (λ l. cond (is_same_line l (granting_line policy a)) 1 0)
    (λ l. count_by (λ x. is_same_line l (granting_line policy x)) xs)
    (λ l. count_by (λ x. is_same_line l (granting_line policy x)) (a ∷ xs)) (granting_lines policy)
    (λ l. sum_by-cons (λ x. cond (is_same_line l (granting_line policy x)) 1 0) a xs)
    ∙ rw (once policy a, sum_of policy xs) (omega arith)

pub add_up : (one other : Policy) → sum_by (lost_by one other) (granting_lines one) ≡ length (lost_accesses one other)
unfolding lost_by
add_up one other = sum_of one (lost_accesses one other)

-- ---- whether there are lines

any_counted : (sign n : ℕ) (words : List ℕ) → is_any (counted sign n words) ≡ nat_lt 0 n
any_counted sign zero words = refl
any_counted sign (suc n) words = grind (arith, nat_tests)

any_sum : {A : Type 0} (sign : ℕ) (f : A → ℕ) (words : A → List ℕ) (xs : List A)
    → is_any (flat_map (λ x. counted sign (f x) (words x)) xs) ≡ nat_lt 0 (sum_by f xs)
any_sum sign f words [] = refl
any_sum sign f words (x ∷ xs) =
    let rest = any_sum sign f words xs in
    let sum = sum_by-cons f x xs in
    any_both (counted sign (f x) (words x)) (flat_map (λ y. counted sign (f y) (words y)) xs)
    ∙ rw (any_counted sign (f x) (words x), rest, sum) (either (f x) (sum_by f xs)) where
      either : (a b : ℕ) → (nat_lt 0 a || nat_lt 0 b) ≡ nat_lt 0 (a + b)
      either a b = grind (arith, nat_tests)

any_texts : (sign : ℕ) (xs : List Access) → is_any (flat_map (access_text sign) xs) ≡ nat_lt 0 (length xs)
unfolding lost_line
any_texts sign [] = refl
any_texts sign (x ∷ xs) = grind (arith, nat_tests)

-- There are lines for rules if there are lines for accesses.
changes_any : (sign : ℕ) (path text : List ℕ) (one other : Policy)
    → is_any (rule_changes sign path text one other) ≡ is_any (lost sign one other)
unfolding rule_changes
changes_any sign path text one other =
    any_sum sign (lost_by one other) (granting_words path text) (granting_lines one)
    ∙ ap (nat_lt 0) (add_up one other) ∙ sym (any_texts sign (lost_accesses one other))
    ∙ ap is_any (sym (all_text sign one other))

pub same_any : (path text new_path new_text : List ℕ) (old new : Policy)
    → is_any (rule_differences path text new_path new_text old new) ≡ is_any (differences old new)
unfolding rule_differences differences
same_any path text new_path new_text old new =
    let old_lines = rule_changes 45 path text old new in
    let new_lines = rule_changes 43 new_path new_text new old in
    any_both (old_lines ++ new_lines) (rest old new)
    ∙ ap (λ (b : Bool). b || is_any (rest old new)) (any_both old_lines new_lines)
    ∙ rw (changes_any 45 path text old new, changes_any 43 new_path new_text new old) refl
    ∙ ap (λ (b : Bool). b || is_any (rest old new)) (sym (any_both (lost 45 old new) (lost 43 new old)))
    ∙ sym (any_both (lost 45 old new ++ lost 43 new old) (rest old new))
