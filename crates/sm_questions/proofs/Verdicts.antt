-- The lines for all violations, one after the other.
use Rattle.std.proofs.Common.{◌≡◌, ℕ, List, [], ◌∷◌, ◌++◌, Option, Ok, Err, true, false, refl, sym, ap, ◌∙◌}
use Rattle.std.proofs.Common.{true≢false}
use Rattle.std.specs.Prelude.{Result}
use Rattle.std.specs.List.{flat_map}
use Rattle.std.proofs.lemmas.List.{append-nil, append_assoc}
use Rattle.std.proofs.lemmas.Grind.{flat_map-append}
use Rattle.sm_policy.specs.Policy.{Policy}
use Rattle.sm_policy.specs.Preparing.{prepared}
use Rattle.sm_policy.specs.declared.violation.Violation.{Violation}
use Rattle.sm_policy.specs.declared.fault.PolicyFault.{PolicyFault, TheVariants.Neverallow}
use Rattle.sm_questions.specs.Checking.{checked_line, refusal_in}
use Rattle.sm_violations.specs.Listing.{violations_in}
use Rattle.sm_questions.specs.Buffered.{Passes, Stops}
use Rattle.sm_questions.specs.Judged.{is_broken, judged_lines, verdict_lines, violation_line, violation_lines}
use Rattle.sm_questions.proofs.Buffering.{passes_filled, passes_none, passes_then, stops_filled, stops_more, stops_none}
use Rattle.sm_questions.proofs.Buffering.{stops_then}

-- The lines for those violations of a list that aren't left any more have passed.
pub record SoFar (old new : Option (List ℕ)) (held rest : List ℕ) (all left : List Violation) : Type 0 where
  pub done : List Violation
  pub split : all ≡ done ++ left
  pub passes : Passes old new held rest (flat_map violation_line done)

pub so_far_none : (a : Option (List ℕ)) (held : List ℕ) (all : List Violation) → SoFar a a held held all all
so_far_none a held all = record { done = []; split = refl; passes = passes_none a held }

one_line : (done : List Violation) (v : Violation)
    → flat_map violation_line (done ++ v ∷ []) ≡ flat_map violation_line done ++ violation_line v
one_line done v = flat_map-append violation_line done (v ∷ [])
    ∙ ap (λ l. flat_map violation_line done ++ l) (append-nil (violation_line v))

pub so_far_more : {a b c : Option (List ℕ)} {held rest filled next : List ℕ} (all old new : List Violation)
    (v : Violation) → SoFar a b held rest all old → old ≡ v ∷ new → filled ≡ rest ++ violation_line v
    → Passes b c filled next [] → SoFar a c held next all new
so_far_more all old new v s is e q = record {
  done = s.done ++ v ∷ [];
  split = s.split ∙ rw is (sym (append_assoc s.done (v ∷ []) new));
  passes = rw (one_line s.done v) (passes_then _ _ s.passes (passes_filled e q));
}

pub so_far_all : {a b : Option (List ℕ)} {held rest : List ℕ} (all left : List Violation)
    → SoFar a b held rest all left → left ≡ [] → Passes a b held rest (flat_map violation_line all)
so_far_all all left s none =
    let whole : all ≡ s.done = s.split ∙ rw none (append-nil s.done) in rw whole s.passes

pub so_far_lost : {a b : Option (List ℕ)} {held rest : List ℕ} (all left : List Violation)
    → SoFar a b held rest all left → Stops a b held (flat_map violation_line all)
so_far_lost {a} {b} {held} {rest} all left s =
    rw (s.split, flat_map-append violation_line s.done left)
    (stops_then _ _ s.passes (stops_none b rest (flat_map violation_line left)))

pub so_far_stops : {a b c : Option (List ℕ)} {held rest filled : List ℕ} (all old new : List Violation) (v : Violation)
    → SoFar a b held rest all old → old ≡ v ∷ new → filled ≡ rest ++ violation_line v → Stops b c filled []
    → Stops a c held (flat_map violation_line all)
so_far_stops all old new v s is e q =
    rw (s.split, is, flat_map-append violation_line s.done (v ∷ new))
    (stops_then _ _ s.passes (stops_more (violation_line v) (flat_map violation_line new) (stops_filled e q)))

-- ---- the verdict

-- Of a broken neverallow rule the lines are those of all violations.
pub judged_broken : (rules contexts : List ℕ) → is_broken (refusal_in (prepared rules contexts)) ≡ true
    → judged_lines rules contexts ≡ violation_lines (violations_in rules)
unfolding judged_lines
judged_broken rules contexts = by (prepared rules contexts) where
  by : (r : Result Policy PolicyFault) → is_broken (refusal_in r) ≡ true
      → verdict_lines rules r ≡ violation_lines (violations_in rules)
  by (Ok policy) h = absurd (true≢false (sym h))
  by (Err (Neverallow v)) h = refl
  by (Err e) h = absurd (true≢false (sym h))

-- Otherwise they are the line of a check.
pub judged_other : (rules contexts : List ℕ) → is_broken (refusal_in (prepared rules contexts)) ≡ false
    → judged_lines rules contexts ≡ checked_line (prepared rules contexts)
unfolding judged_lines
judged_other rules contexts = by (prepared rules contexts) where
  by : (r : Result Policy PolicyFault) → is_broken (refusal_in r) ≡ false → verdict_lines rules r ≡ checked_line r
  by (Ok policy) h = refl
  by (Err (Neverallow v)) h = absurd (true≢false h)
  by (Err e) h = refl
