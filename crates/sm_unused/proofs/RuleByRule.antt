-- The lines of unused rules, rule by rule.
use Rattle.std.proofs.Common.{◌≡◌, ◌∙◌, ℕ, ◌+◌, ◌<◌, ◌≤◌, Bool, true, false, not, List, [], ◌∷◌, ◌++◌, length}
use Rattle.std.proofs.Common.{get_or, take, refl, sym, ap, arith, cond, append_assoc, inl, inr, Some}
use Rattle.std.proofs.lemmas.List.{append-nil, take_all, take_more}
use Rattle.std.specs.Prelude.{filter, map, slice_get}
use Rattle.std.proofs.lemmas.Option.{get_or_from_slice_get, slice_get_cases, slice_get_read, slice_get_within}
use Rattle.sm_ruletext.specs.declared.rule.Rule.{Rule}
use Rattle.sm_ruletext.specs.declared.statement.RuleKind.{RuleKind}
use Rattle.sm_ruletext.specs.declared.statement.RuleKind.TheVariants.{Allow}
use Rattle.sm_ruletext.specs.declared.statement.Statement.{Statement}
use Rattle.sm_types.specs.Denoting.{types}
use Rattle.sm_rules.specs.Keeping.{KeptRules, RulesOf, Says, of_kind, rules_in}
use Rattle.sm_rules.specs.declared.kept.Kept.{Kept}
use Rattle.sm_rules.proofs.Consistent.{all_say}
use Rattle.sm_unused.specs.Unused.{covers_more, unused_below}

-- The lines of some rules.
abbrev pub lines_of : List (ℕ × Rule) → List ℕ
lines_of rules = map (λ (r : ℕ × Rule). r.0) rules

-- The line of a rule follows others, unless the rule is of use.
abbrev pub with_line : Bool → List ℕ → ℕ → List ℕ
with_line more lines n = cond more lines (lines ++ n ∷ [])

-- ---- one more rule

below_more : (policy : List Statement) (above rules : List (ℕ × Rule)) (r : ℕ × Rule)
    → lines_of (unused_below policy above (rules ++ r ∷ []))
    ≡ with_line (covers_more policy (above ++ rules) r.1) (lines_of (unused_below policy above rules)) r.0
below_more policy above [] r = rw (append-nil above) (by (covers_more policy above r.1)) where
  by : (c : Bool) → lines_of (cond c [] (r ∷ [])) ≡ with_line c [] r.0
  by true = refl
  by false = refl
below_more policy above (q ∷ rules) r =
    let rest = rw (append_assoc above (q ∷ []) rules) at (below_more policy (above ++ q ∷ []) rules r) in
    by (covers_more policy above q.1) (covers_more policy (above ++ q ∷ rules) r.1) rest
  where
    by : (c d : Bool) → lines_of (unused_below policy (above ++ q ∷ []) (rules ++ r ∷ []))
        ≡ with_line d (lines_of (unused_below policy (above ++ q ∷ []) rules)) r.0
        → lines_of (cond c (unused_below policy (above ++ q ∷ []) (rules ++ r ∷ []))
        (q ∷ unused_below policy (above ++ q ∷ []) (rules ++ r ∷ [])))
        ≡ with_line d (lines_of (cond c (unused_below policy (above ++ q ∷ []) rules)
        (q ∷ unused_below policy (above ++ q ∷ []) rules))) r.0
    by true d rest = rest
    by false true rest = ap (λ l. q.0 ∷ l) rest
    by false false rest = ap (λ l. q.0 ∷ l) rest

filter_more : (p : ℕ × Rule → Bool) (rules : List (ℕ × Rule)) (r : ℕ × Rule)
    → lines_of (filter p (rules ++ r ∷ [])) ≡ with_line (not (p r)) (lines_of (filter p rules)) r.0
filter_more p [] r = by (p r) where
  by : (c : Bool) → lines_of (cond c (r ∷ []) []) ≡ with_line (not c) [] r.0
  by true = refl
  by false = refl
filter_more p (q ∷ rules) r = by (p q) (p r) (filter_more p rules r) where
  by : (c d : Bool) → lines_of (filter p (rules ++ r ∷ [])) ≡ with_line (not d) (lines_of (filter p rules)) r.0
      → lines_of (cond c (q ∷ filter p (rules ++ r ∷ [])) (filter p (rules ++ r ∷ [])))
      ≡ with_line (not d) (lines_of (cond c (q ∷ filter p rules) (filter p rules))) r.0
  by false d rest = rest
  by true true rest = ap (λ l. q.0 ∷ l) rest
  by true false rest = ap (λ l. q.0 ∷ l) rest

-- ---- at an index

one_more : (rules : List (ℕ × Rule)) (i : ℕ) (r : ℕ × Rule) → slice_get rules i ≡ Some r
    → take (i + 1) rules ≡ take i rules ++ r ∷ []
one_more rules i r there = take_more rules i r (slice_get_within rules i r there)
    ∙ ap (λ q. take i rules ++ q ∷ []) (get_or_from_slice_get rules i r r there)

pub take_one : (rules : List (ℕ × Rule)) (i : ℕ) (r : ℕ × Rule) → slice_get rules i ≡ Some r
    → take i rules ++ r ∷ [] ≡ take (i + 1) rules
take_one rules i r there = sym (one_more rules i r there)

-- The lines of the unused rules below none, of those before an index and of the one at the index.
pub below_step : (policy : List Statement) (rules : List (ℕ × Rule)) (i : ℕ) (r : ℕ × Rule) (lines : List ℕ)
    → slice_get rules i ≡ Some r → lines ≡ lines_of (unused_below policy [] (take i rules))
    → with_line (covers_more policy (take i rules) r.1) lines r.0
    ≡ lines_of (unused_below policy [] (take (i + 1) rules))
below_step policy rules i r lines there so_far =
    rw (one_more rules i r there, so_far) (sym (below_more policy [] (take i rules) r))

-- The same for those that pass a test.
pub filter_step : (p : ℕ × Rule → Bool) (rules : List (ℕ × Rule)) (i : ℕ) (r : ℕ × Rule) (lines : List ℕ)
    → slice_get rules i ≡ Some r → lines ≡ lines_of (filter p (take i rules))
    → with_line (not (p r)) lines r.0 ≡ lines_of (filter p (take (i + 1) rules))
filter_step p rules i r lines there so_far =
    rw (one_more rules i r there, so_far) (sym (filter_more p (take i rules) r))

-- The same, where a rule is known to be of use or not, and has its line.
pub below_next : (policy : List Statement) (rules : List (ℕ × Rule)) (i : ℕ) (r : ℕ × Rule) (more : Bool) (line : ℕ)
    (old new : List ℕ) → slice_get rules i ≡ Some r → old ≡ lines_of (unused_below policy [] (take i rules))
    → more ≡ covers_more policy (take i rules) r.1 → line ≡ r.0 → new ≡ with_line more old line
    → new ≡ lines_of (unused_below policy [] (take (i + 1) rules))
below_next policy rules i r more line old new there so_far is at step =
    step ∙ rw (is, at) (below_step policy rules i r old there so_far)

-- A dontaudit rule is of no use.
abbrev pub is_needless : List Statement → ℕ × Rule → Bool
is_needless policy r = not (covers_more policy (rules_in Allow policy) r.1)

twice : (b : Bool) → not (not b) ≡ b
twice true = refl
twice false = refl

pub needless_next : (policy : List Statement) (rules : List (ℕ × Rule)) (i : ℕ) (r : ℕ × Rule) (more : Bool) (line : ℕ)
    (old new : List ℕ) → slice_get rules i ≡ Some r → old ≡ lines_of (filter (is_needless policy) (take i rules))
    → more ≡ covers_more policy (rules_in Allow policy) r.1 → line ≡ r.0 → new ≡ with_line more old line
    → new ≡ lines_of (filter (is_needless policy) (take (i + 1) rules))
needless_next policy rules i r more line old new there so_far is at step =
    step ∙ rw (is, at, ← twice (covers_more policy (rules_in Allow policy) r.1))
    (filter_step (is_needless policy) rules i r old there so_far)

-- ---- kept rules

module _ (policy : List Statement) (rules : KeptRules) (kind : RuleKind) (i : ℕ)
    (ruled : RulesOf policy (types policy) rules) where
  -- A kept rule says what the rule at the same index says.
  pub kept_rule : (k : Kept) → i < length (of_kind kind rules) → k ≡ get_or (of_kind kind rules) i k
      → (r : ℕ × Rule) × (slice_get (rules_in kind policy) i ≡ Some r) × Says policy (types policy) r k
  kept_rule k lt is =
      (all_say policy (types policy) (rules_in kind policy) (of_kind kind rules) ruled.distinct (ruled.kept kind)).of_kept
      i k (slice_get_read (of_kind kind rules) (length (of_kind kind rules)) i k refl lt is)

  -- There are no more rules than kept ones.
  pub no_more : length (of_kind kind rules) ≤ i → take i (rules_in kind policy) ≡ rules_in kind policy
  no_more past = elim (slice_get_cases (rules_in kind policy) i).1 [
    | inl x ↦ (let k = (all_say policy (types policy) (rules_in kind policy) (of_kind kind rules) ruled.distinct
        (ruled.kept kind)).of_rule i x.0 x.2 in
        let inside = slice_get_within (of_kind kind rules) i k.0 k.1 in absurd (omega (arith, past, inside)))
    | inr x ↦ take_all i (rules_in kind policy) x.0
  ]
