-- A policy that is refused for a neverallow rule is refused for the first of all violations.
use Rattle.std.proofs.Common.{inl, inr, ◌≡◌, ◌⊎◌, ℕ, List, [], ◌∷◌, Option, None, Some, refl, sym, ap, ◌∙◌, slice_get}
use Rattle.std.proofs.Common.{Ok, Err}
use Rattle.std.specs.Prelude.{Result}
use Rattle.sm_values.specs.Reading.{◌>>=◌}
use Rattle.sm_ruletext.specs.declared.fault.RuleTextFault.{RuleTextFault}
use Rattle.sm_ruletext.specs.declared.fault.RuleTextFault.TheVariants as text
use Rattle.sm_ruletext.specs.declared.statement.Statement.{Statement}
use Rattle.sm_types.specs.declared.fault.TypesFault.{TypesFault}
use Rattle.sm_types.specs.declared.fault.TypesFault.TheVariants as types
use Rattle.sm_types.specs.Declaring.{symbols_of}
use Rattle.sm_rules.specs.declared.fault.RulesFault.{RulesFault}
use Rattle.sm_rules.specs.declared.fault.RulesFault.TheVariants as access
use Rattle.sm_rules.specs.Faults.{first_fault}
use Rattle.sm_contexts.specs.Lines.{lines}
use Rattle.sm_contexts.specs.declared.fault.ContextsFault.{ContextsFault}
use Rattle.sm_contexts.specs.declared.fault.ContextsFault.TheVariants as labels
use Rattle.sm_contexts.specs.Reading as contexts
use Rattle.sm_ruletext.specs.Statements as rules
use Rattle.sm_policy.specs.declared.fault.PolicyFault.{PolicyFault}
use Rattle.sm_policy.specs.declared.fault.PolicyFault.TheVariants.{Neverallow, UndeclaredLabel}
use Rattle.sm_policy.specs.declared.violation.Violation.{Violation}
use Rattle.sm_policy.specs.Preparing.{Step, of_access, of_contexts, of_text, of_types, refused_by, through}
use Rattle.sm_policy.specs.Preparing.{undeclared_from, labels_of, prepared, rules_of, unbroken}
use Rattle.sm_policy.specs.Violating.{first_violation}
use Rattle.sm_violations.specs.Listing.{violations, violations_in}
use Rattle.sm_violations.proofs.Truths.{head}

-- A fault is that of the first step, or of the others.
went_wrong : {A B : Type 0} (r : Step A) (f : A → Step B) (e : PolicyFault) → (r >>= f) ≡ Err e
    → (r ≡ Err e) ⊎ ((x : A) × (r ≡ Ok x) × (f x ≡ Err e))
went_wrong (Ok x) f e h = inr (x, refl, h)
went_wrong (Err d) f e h = let same : d ≡ e = cc in inl (ap (λ x. Err x) same)

-- ---- other faults aren't those of a neverallow rule

no_text : {A : Type 0} (r : Result A RuleTextFault) (v : Violation) → through of_text r ≡ Err (Neverallow v) → ⊥
no_text (Ok x) v h = absurd cc
no_text (Err text.Memory) v h = absurd cc
no_text (Err e) v h = absurd cc

no_types : {A : Type 0} (r : Result A TypesFault) (v : Violation) → through of_types r ≡ Err (Neverallow v) → ⊥
no_types (Ok x) v h = absurd cc
no_types (Err types.Memory) v h = absurd cc
no_types (Err e) v h = absurd cc

no_access : {A : Type 0} (o : Option RulesFault) (x : A) (v : Violation) → refused_by of_access o x ≡ Err (Neverallow v)
    → ⊥
no_access None x v h = absurd cc
no_access (Some access.Memory) x v h = absurd cc
no_access (Some e) x v h = absurd cc

no_contexts : {A : Type 0} (r : Result A ContextsFault) (v : Violation) → through of_contexts r ≡ Err (Neverallow v) → ⊥
no_contexts (Ok x) v h = absurd cc
no_contexts (Err labels.Memory) v h = absurd cc
no_contexts (Err e) v h = absurd cc

no_undeclared : {A : Type 0} (o : Option ℕ) (x : A) (v : Violation)
    → refused_by UndeclaredLabel o x ≡ Err (Neverallow v) → ⊥
no_undeclared None x v h = absurd cc
no_undeclared (Some n) x v h = absurd cc

no_labels : (statements : List Statement) (source : List ℕ) (v : Violation)
    → labels_of statements source ≡ Err (Neverallow v) → ⊥
unfolding labels_of
no_labels statements source v h =
    elim (went_wrong (through of_contexts (contexts.read source))
    (λ entries. refused_by UndeclaredLabel (undeclared_from statements 1 (lines source)) entries) (Neverallow v) h) [
      | inl wrong ↦ no_contexts (contexts.read source) v wrong
      | inr entries ↦ no_undeclared (undeclared_from statements 1 (lines source)) entries.0 v entries.2
    ]

-- ---- the fault of a neverallow rule

broken_by : {A : Type 0} (o : Option Violation) (x : A) (v : Violation) → refused_by Neverallow o x ≡ Err (Neverallow v)
    → o ≡ Some v
broken_by None x v h = absurd cc
broken_by (Some w) x v h = cc

head_there : (vs : List Violation) (v : Violation) → slice_get vs 0 ≡ Some v → (more : List Violation) × (vs ≡ v ∷ more)
head_there [] v h = absurd cc
head_there (w ∷ vs) v h = let is : w ≡ v = cc in (vs, ap (λ x. x ∷ vs) is)

found : (source : List ℕ) (statements : List Statement) (v : Violation) → unbroken statements ≡ Err (Neverallow v)
    → violations_in source ≡ Ok (violations statements)
    → (more : List Violation) × (violations_in source ≡ Ok (v ∷ more))
unfolding unbroken
found source statements v wrong told =
    let first = broken_by (first_violation statements) statements v wrong in
    let all = head_there (violations statements) v (head statements ∙ first) in
    (all.0, told ∙ ap (λ vs. Ok vs) all.1)

pub refused_by_head : (source contexts : List ℕ) (v : Violation) → prepared source contexts ≡ Err (Neverallow v)
    → (more : List Violation) × (violations_in source ≡ Ok (v ∷ more))
unfolding prepared rules_of violations_in
refused_by_head source contexts v h = elim (went_wrong (rules_of source) _ (Neverallow v) h) [
  | inl wrong ↦ absurd (no_text (rules.read source) v wrong)
  | inr st ↦ elim (went_wrong (through of_types (symbols_of st.0)) _ (Neverallow v) st.2) [
    | inl wrong ↦ absurd (no_types (symbols_of st.0) v wrong)
    | inr sy ↦ elim (went_wrong (refused_by of_access (first_fault st.0) st.0) _ (Neverallow v) sy.2) [
      | inl wrong ↦ absurd (no_access (first_fault st.0) st.0 v wrong)
      | inr ac ↦ elim (went_wrong (labels_of st.0 contexts) _ (Neverallow v) ac.2) [
        | inl wrong ↦ absurd (no_labels st.0 contexts v wrong)
        | inr la ↦ elim (went_wrong (unbroken st.0) _ (Neverallow v) la.2) [
          | inl wrong ↦ found source st.0 v wrong (rw (st.1, sy.1, ac.1) refl)
          | inr un ↦ absurd (cc un.2)
        ]
      ]
    ]
  ]
]
