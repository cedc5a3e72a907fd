-- The compiled rules of a policy: for each permission, which pairs of types they join.
use Rattle.std.specs.Prelude.{◌≡◌, ℕ, true, false, not, ◌<◌, ◌+◌, ◌/◌, if◌then◌else◌, List, length}
use Rattle.sm_bits.specs.Bits.{row, has}
use Rattle.sm_ruletext.specs.declared.statement.RuleKind.TheVariants.{Allow, Dontaudit}
use Rattle.sm_types.specs.Names.{Name, at}
use Rattle.sm_types.specs.Denoting.{Policy, declares}
use Rattle.sm_rules.specs.Keeping.{SaysPermissive}
use Rattle.sm_matrices.specs.Matrices.{matrix, AllSquare, SayCovered}
use Rattle.sm_matrices.specs.declared.decision.Decision.{Decision}

-- Contracts see these of a policy's tables: the number of types, the matrices of its allow rules and those of its
-- dontaudit rules, and its permissive types.
pub record Tables : Type 0 where
  pub count : ℕ
  pub written : List (List (List ℕ))
  pub silenced : List (List (List ℕ))
  pub permissive : List ℕ

-- There are seven matrices, each with room for all pairs of types.
pub record IsFull (count : ℕ) (matrices : List (List (List ℕ))) : Type 0 where
  pub number : length matrices ≡ 7
  pub square : AllSquare matrices count

-- The tables have room for all types.
pub record IsRoomy (tables : Tables) : Type 0 where
  pub written : IsFull tables.count tables.written
  pub silenced : IsFull tables.count tables.silenced
  pub permissive : length tables.permissive ≡ tables.count / 64 + 1

-- Without any rule this is the decision: the check doesn't pass, and is audited.
abbrev pub refusal : Decision
refusal = record { allowed = false; audited = true }

-- This is the decision of the tables for permission b, source s and target t.
abbrev pub decision : Tables → ℕ → ℕ → ℕ → Decision
decision tables b s t =
    if has (row (matrix tables.written b) s) t then record { allowed = true; audited = false }
    else record { allowed = has tables.permissive s; audited = not (has (row (matrix tables.silenced b) s) t) }

-- The tables are those of the policy, whose types have these names.
pub record TablesOf (policy : Policy) (names : List Name) (tables : Tables) : Type 0 where
  pub count : tables.count ≡ length names
  pub written : SayCovered Allow policy names tables.written
  pub silenced : SayCovered Dontaudit policy names tables.silenced
  pub permissive : SaysPermissive policy names tables.permissive
  pub declared : (i : ℕ) → i < length names → declares policy (at names i) ≡ true
