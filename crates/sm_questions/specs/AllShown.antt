-- The statements of a policy source that its violations name.
use Rattle.std.specs.Prelude.{ℕ, nat_eq, if◌then◌else◌, List, [], ◌∷◌, ◌++◌, Ok, Err}
use Rattle.std.specs.List.{flat_map, list_any}
use Rattle.sm_policy.specs.Preparing.{Step}
use Rattle.sm_policy.specs.declared.violation.Violation.{Violation}
use Rattle.sm_policy.specs.declared.fault.PolicyFault.{PolicyFault, TheVariants.Neverallow}
use Rattle.sm_violations.specs.Listing.{violations_in}
use Rattle.sm_questions.specs.Shown.{shown_lines, shown_statement}

-- A number follows others, unless it is one of them.
abbrev pub with_number : List ℕ → ℕ → List ℕ
with_number numbers n = if list_any (nat_eq n) numbers then numbers else numbers ++ n ∷ []

-- The lines that violations name follow others, each once: of each violation first that of the neverallow rule.
abbrev pub with_numbers : List ℕ → List Violation → List ℕ
with_numbers numbers [] = numbers
with_numbers numbers (v ∷ violations) =
    with_numbers (with_number (with_number numbers v.never_line) v.allow_line) violations

-- These are the statements that the violations in a policy source name, if its rules can be read.
abbrev pub shown_violations : List ℕ → List ℕ → Step (List Violation) → List ℕ
shown_violations path text (Ok violations) = flat_map (shown_statement path text) (with_numbers [] violations)
shown_violations path text (Err e) = []

-- These are the statements and lines that a refusal names: if a neverallow rule is broken, those of all violations.
abbrev pub all_shown_lines : List ℕ → List ℕ → List ℕ → List ℕ → PolicyFault → List ℕ
all_shown_lines rules_path rules contexts_path contexts (Neverallow v) =
    shown_violations rules_path rules (violations_in rules)
all_shown_lines rules_path rules contexts_path contexts fault =
    shown_lines rules_path rules contexts_path contexts fault
