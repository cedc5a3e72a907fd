-- The verdict of `svcmgr check`.
use Rattle.std.specs.Prelude.{ℕ, List, ◌++◌, Option, Some, None, Result, Ok, Err, codes}
use Rattle.sm_values.specs.Messages.{numbered}
use Rattle.sm_policy.specs.declared.counts.Counts.{Counts}
use Rattle.sm_policy.specs.declared.fault.PolicyFault.{PolicyFault}
use Rattle.sm_policy.specs.Counting.{counts_of}
use Rattle.sm_policy.specs.Policy.{Policy}
use Rattle.sm_policy.specs.Refused.{refused_words}

-- This is `policy ok: T types, A attributes, R rules, L labels`.
abbrev pub accepted_line : Counts → List ℕ
accepted_line counts =
    numbered (codes "policy ok: ") counts.types
    ++ numbered (codes " types, ") counts.attributes
    ++ numbered (codes " attributes, ") counts.rules
    ++ numbered (codes " rules, ") counts.labels
    ++ codes " labels\n"

-- This is `policy refused: TEXT`.
abbrev pub refused_line : PolicyFault → List ℕ
refused_line fault = codes "policy refused: " ++ refused_words fault ++ codes "\n"

-- This is the line for the result of reading two files.
abbrev pub checked_line : Result Policy PolicyFault → List ℕ
checked_line (Ok policy) = accepted_line (counts_of policy)
checked_line (Err fault) = refused_line fault

-- This is why two files aren't those of a policy.
abbrev pub refusal_in : Result Policy PolicyFault → Option PolicyFault
refusal_in (Ok policy) = None
refusal_in (Err fault) = Some fault
