-- The lines for rules, by the places of their counts, and what their counts add up to.
use Rattle.std.proofs.Common.{sym, ◌≡◌, ◌∙◌, ℕ, zero, suc, ◌+◌, ◌-◌, ◌<◌, ◌≤◌, List, [], ◌∷◌, ◌++◌, map}
use Rattle.std.proofs.Common.{Option, None, Some, length, get_or, refl, ap, arith}
use Rattle.std.specs.List.{flat_map}
use Rattle.std.proofs.lemmas.Bool.{le-ltb, lt-ltb}
use Rattle.std.proofs.lemmas.Grind.{flat_map-append}
use Rattle.sm_policy.specs.Policy.{Policy}
use Rattle.sm_questions.specs.Differences.{rest}
use Rattle.sm_questions.specs.RuleChanges.{change_line, numbers_from}
use Rattle.sm_questions.specs.RuleChanges.{rule_changes}
use Rattle.sm_questions.specs.Tallies.{AreCounts, counted_at, end_of, line_of}

-- ---- numbers, one after another

pub numbers_many : (first n : ℕ) → length (numbers_from first n) ≡ n
numbers_many first zero = refl
numbers_many first (suc n) = let rest = numbers_many (first + 1) n in omega (arith, rest)

number_at : (first n i d : ℕ) → i < n → get_or (numbers_from first n) i d ≡ first + i
number_at first zero i d lt = absurd (omega arith)
number_at first (suc n) zero d lt = omega arith
number_at first (suc n) (suc i) d lt = number_at (first + 1) n i d (omega arith) ∙ omega arith

pub place_at : (n i d : ℕ) → i < n → get_or (numbers_from 0 n) i d ≡ i
place_at n i d lt = let at = number_at 0 n i d lt in omega (arith, at)

-- ---- lines by the places of their counts

line_low : (end p : ℕ) → p < end → line_of end p ≡ Some p
line_low end p lt = rw (lt-ltb p end lt) refl

line_last : (end : ℕ) → line_of end end ≡ None
line_last end = rw (le-ltb end end (omega arith)) refl

same_lines : (f : ℕ → List ℕ) (g : Option ℕ → List ℕ) (end first n : ℕ) → first + n ≤ end
    → ((p : ℕ) → p < end → f p ≡ g (line_of end p))
    → flat_map f (numbers_from first n) ≡ flat_map g (map Some (numbers_from first n))
same_lines f g end first zero le same = refl
same_lines f g end first (suc n) le same =
    let lt : first < end = omega arith in
    let here : f first ≡ g (Some first) = same first lt ∙ ap g (line_low end first lt) in
    rw (here, same_lines f g end (first + 1) n (omega arith) same) refl

numbers_last : (first n : ℕ) → numbers_from first (suc n) ≡ numbers_from first n ++ (first + n) ∷ []
numbers_last first zero = ap (λ k. k ∷ []) (omega arith)
numbers_last first (suc n) = ap (λ l. first ∷ l)
    (numbers_last (first + 1) n ∙ ap (λ k. numbers_from (first + 1) n ++ k ∷ []) (omega arith))

-- The lines by places are those by lines, of which none comes last.
by_lines : (f : ℕ → List ℕ) (g : Option ℕ → List ℕ) (end n : ℕ) → n ≡ suc end
    → ((p : ℕ) → p < n → f p ≡ g (line_of end p))
    → flat_map f (numbers_from 0 n) ≡ flat_map g (map Some (numbers_from 0 end) ++ None ∷ [])
by_lines f g end n long same =
    let numbers = numbers_from 0 end in
    let front = same_lines f g end 0 end (omega arith) (λ p lt. same p (omega (arith, lt, long))) in
    let is : 0 + end ≡ end = omega arith in
    let last : f (0 + end) ≡ g None = ap f is ∙ same end (omega (arith, long)) ∙ ap g (line_last end) in
    ap (λ (k : ℕ). flat_map f (numbers_from 0 k)) long ∙ ap (flat_map f) (numbers_last 0 end)
    ∙ flat_map-append f numbers ((0 + end) ∷ [])
    ∙ ap (λ l. l ++ flat_map f ((0 + end) ∷ [])) front
    ∙ ap (λ l. flat_map g (map Some numbers) ++ (l ++ [])) last
    ∙ sym (flat_map-append g (map Some numbers) (None ∷ []))

pub all_changes : (sign : ℕ) (path text : List ℕ) (one other : Policy) (counts : List ℕ) → AreCounts one other counts
    → flat_map (counted_at sign path text counts) (numbers_from 0 (length counts))
    ≡ rule_changes sign path text one other
unfolding rule_changes
all_changes sign path text one other counts are =
    let end = end_of one in
    let short : length counts - 1 ≡ end = omega (arith, are.places) in
    by_lines (counted_at sign path text counts) (change_line sign path text one other) end (length counts)
    (omega (arith, are.places)) (λ p lt. rw (short, are.each p lt) refl)
