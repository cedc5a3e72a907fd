-- The source of a policy.
use Rattle.std.proofs.Common.{◌≡◌, ◌∙◌, ℕ, List, Ok, ap, refl}
use Rattle.sm_values.proofs.Readers.{went_well}
use Rattle.sm_ruletext.specs.Statements as source
use Rattle.sm_ruletext.specs.declared.statement.Statement.{Statement}
use Rattle.sm_types.specs.Declaring.{symbols_of}
use Rattle.sm_rules.specs.Faults.{first_fault}
use Rattle.sm_policy.specs.Policy.{Policy}
use Rattle.sm_policy.specs.Preparing.{Step, labels_of, of_access, of_text, of_types, prepared, refused_by}
use Rattle.sm_policy.specs.Preparing.{rules_of, through, unbroken}

same : (p q : Policy) (r : Step Policy) → r ≡ Ok p → r ≡ Ok q → p ≡ q
same p q r e f = cc

-- A policy that is prepared has the statements of its policy source.
pub source_read : (rules contexts : List ℕ) (policy : Policy) → prepared rules contexts ≡ Ok policy
    → rules_of rules ≡ Ok policy.statements
unfolding prepared
source_read rules contexts policy h =
    let st = went_well (rules_of rules) _ policy h in
    let sy = went_well (through of_types (symbols_of st.0)) _ policy st.2 in
    let ac = went_well (refused_by of_access (first_fault st.0) st.0) _ policy sy.2 in
    let la = went_well (labels_of st.0 contexts) _ policy ac.2 in
    let un = went_well (unbroken st.0) _ policy la.2 in
    let made : Policy = record { statements = st.0; entries = la.0 } in
    st.1 ∙ ap (λ (p : Policy). Ok p.statements) (same made policy (Ok made) refl un.2)

-- What is read of the source are the statements.
pub read_is : (text : List ℕ) (items statements : List Statement) → source.read text ≡ Ok items
    → rules_of text ≡ Ok statements → items ≡ statements
unfolding rules_of
read_is text items statements e h =
    let read : through of_text (Ok items) ≡ Ok statements = rw e at h in cc
