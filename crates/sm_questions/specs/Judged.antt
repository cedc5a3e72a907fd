-- What `svcmgr check --all` writes.
use Rattle.std.specs.Prelude.{ℕ, Bool, true, false, List, [], Option, Some, Result, Ok, Err}
use Rattle.std.specs.List.{flat_map}
use Rattle.sm_policy.specs.Counting.{counts_of}
use Rattle.sm_policy.specs.Policy.{Policy}
use Rattle.sm_policy.specs.Preparing.{Step, prepared}
use Rattle.sm_policy.specs.declared.violation.Violation.{Violation}
use Rattle.sm_policy.specs.declared.fault.PolicyFault.{PolicyFault, TheVariants.Neverallow}
use Rattle.sm_questions.specs.Checking.{accepted_line, refused_line}
use Rattle.sm_violations.specs.Listing.{violations_in}

-- This is the line for a violation.
abbrev pub violation_line : Violation → List ℕ
violation_line v = refused_line (Neverallow v)

-- These are the lines for the violations in a policy source, if its rules can be read.
abbrev pub violation_lines : Step (List Violation) → List ℕ
violation_lines (Ok violations) = flat_map violation_line violations
violation_lines (Err e) = []

-- These are the lines for the result of reading two files, the first of which is this policy source.
abbrev pub verdict_lines : List ℕ → Result Policy PolicyFault → List ℕ
verdict_lines rules (Ok policy) = accepted_line (counts_of policy)
verdict_lines rules (Err (Neverallow v)) = violation_lines (violations_in rules)
verdict_lines rules (Err e) = refused_line e

-- A policy is refused for a neverallow rule.
abbrev pub is_broken : Option PolicyFault → Bool
is_broken (Some (Neverallow v)) = true
is_broken refusal = false

-- These are the lines for two files.
unfoldable pub judged_lines : List ℕ → List ℕ → List ℕ
judged_lines rules contexts = verdict_lines rules (prepared rules contexts)
