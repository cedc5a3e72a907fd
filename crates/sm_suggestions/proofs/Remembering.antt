-- Rulings that are remembered.
use Rattle.std.proofs.Common.{◌≡◌, ℕ, Bool, true, false, ◌&&◌, cond, List, [], ◌∷◌, Option, Some, IfSome}
use Rattle.std.proofs.Common.{sym, subst, ◌∙◌, arith}
use Rattle.std.specs.Prelude.{◌==◌}
use Rattle.std.specs.Map.{lookup}
use Rattle.std.proofs.lemmas.Bool.{and_parts}
use Rattle.indexmap.specs.IndexMap.{insert_entry}
use Rattle.sm_policy.specs.Policy.{Policy}
use Rattle.sm_suggestions.specs.Rulings.{AreRulings, IsRuling}
use Rattle.sm_suggestions.specs.declared.ruling.Ruling.{Ruling}

-- What is looked up is a ruling on the access that it names.
looked_up : (policy : Policy) (test : ℕ → Bool) (es : List (ℕ × Ruling)) → AreRulings policy es
    → IfSome (lookup test es) (λ r. IsRuling policy r.source r.target r.bit r)
looked_up policy test [] are = tt
looked_up policy test (e ∷ es) are = by (test e.0) are.0 (looked_up policy test es are.1) where
  by : (b : Bool) → IsRuling policy e.1.source e.1.target e.1.bit e.1
      → IfSome (lookup test es) (λ r. IsRuling policy r.source r.target r.bit r)
      → IfSome (cond b (Some e.1) (lookup test es)) (λ r. IsRuling policy r.source r.target r.bit r)
  by true here rest = here
  by false here rest = rest

-- The same of what is equal to it.
pub found_right : (policy : Policy) (test : ℕ → Bool) (es : List (ℕ × Ruling)) (o : Option Ruling) → o ≡ lookup test es
    → AreRulings policy es → IfSome o (λ r. IsRuling policy r.source r.target r.bit r)
found_right policy test es o e are = rw e (looked_up policy test es are)

-- A ruling that names an access is one on this access.
pub of_access : (policy : Policy) (s t b : ℕ) (r : Ruling) (is : Bool)
    → is ≡ ((r.source == s && r.target == t) && r.bit == b) → is ≡ true
    → IsRuling policy r.source r.target r.bit r → IsRuling policy s t b r
of_access policy s t b r is e h right =
    let all : ((r.source == s && r.target == t) && r.bit == b) ≡ true = sym e ∙ h in
    let parts = and_parts (r.source == s && r.target == t) (r.bit == b) all in
    let types = and_parts (r.source == s) (r.target == t) parts.0 in
    let source : r.source ≡ s = grind (arith, types.0) in
    let target : r.target ≡ t = grind (arith, types.1) in
    let perm : r.bit ≡ b = grind (arith, parts.1) in
    subst (λ x. IsRuling policy x t b r) source (subst (λ x. IsRuling policy r.source x b r) target
    (subst (λ x. IsRuling policy r.source r.target x r) perm right))

-- A ruling on an access that it names is one on what it names.
pub of_its_own : (policy : Policy) (s t b : ℕ) (r : Ruling) → r.source ≡ s → r.target ≡ t → r.bit ≡ b
    → IsRuling policy s t b r → IsRuling policy r.source r.target r.bit r
of_its_own policy s t b r source target perm right =
    subst (λ x. IsRuling policy x r.target r.bit r) (sym source) (subst (λ x. IsRuling policy s x r.bit r) (sym target)
    (subst (λ x. IsRuling policy s t x r) (sym perm) right))

-- One more ruling is remembered.
pub inserted : (policy : Policy) (same : ℕ → ℕ → Bool) (es : List (ℕ × Ruling)) (n : ℕ) (r : Ruling)
    → AreRulings policy es → IsRuling policy r.source r.target r.bit r
    → AreRulings policy (insert_entry same es n r)
inserted policy same [] n r are is = (is, tt)
inserted policy same (e ∷ es) n r are is = by (same n e.0) are is (inserted policy same es n r are.1 is) where
  by : (b : Bool) → AreRulings policy (e ∷ es) → IsRuling policy r.source r.target r.bit r
      → AreRulings policy (insert_entry same es n r)
      → AreRulings policy (cond b ((e.0, r) ∷ es) (e ∷ insert_entry same es n r))
  by true all new rest = (new, all.1)
  by false all new rest = (all.0, rest)
