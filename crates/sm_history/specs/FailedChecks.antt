-- The first condition that a request fails.
use Rattle.std.specs.Prelude.{ℕ, List, Option}
use Rattle.sm_values.specs.declared.class.Class.{Class}
use Rattle.sm_values.specs.declared.perms.Perms.{Perms}
use Rattle.sm_values.specs.declared.identity.Identity.{Identity}
use Rattle.sm_history.specs.declared.denial.Denial.{Denial}
use Rattle.sm_history.specs.EarlyAnswers.{EarlyAnswer}

-- No rule grants a permission from a process to a context (the name is there if the context is its label); a clause on
-- the user number of a process; any other condition, and the answer.
pub data FailedCheck : Type 0 where
  Unruled : Class → Perms → Identity → (target : List ℕ) → (name : Option (List ℕ)) → FailedCheck
  Barred : Denial → Identity → (name : List ℕ) → FailedCheck
  Unmet : EarlyAnswer → FailedCheck
