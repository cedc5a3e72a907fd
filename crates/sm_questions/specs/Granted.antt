-- The permissions of two types as the bits of a byte, beside those of another policy.
use Rattle.std.specs.Prelude.{◌≡◌, ℕ, Bool, ◌||◌, nat_eq, List, [], Option, Some, None, IfSome, take}
use Rattle.std.specs.List.{flat_map}
use Rattle.std.proofs.Common.{get_or}
use Rattle.sm_policy.specs.Policy.{Policy}
use Rattle.sm_policy.specs.GrantedRow.{IsRow}
use Rattle.sm_types.specs.Denoting.{types}
use Rattle.sm_types.specs.Names.{at}
use Rattle.sm_questions.specs.Differences.{lost_pair}

-- This is the byte of a type that has a number, or 0.
abbrev pub byte_for : List ℕ → Option ℕ → ℕ
byte_for row None = 0
byte_for row (Some t) = get_or row t 0

-- There is nothing to lose in the first byte, or the second one is the same.
abbrev pub is_kept : ℕ → ℕ → Bool
is_kept here there = nat_eq here 0 || nat_eq here there

-- The row is that of the source of this number, or empty if there is none.
pub record IsRowThere (policy : Policy) (row : List ℕ) (source : Option ℕ) : Type 0 where
  pub some : IfSome source (IsRow policy row)
  pub none : source ≡ None → row ≡ []

-- A source loses nothing on the types below a number.
abbrev pub LosesNothing : ℕ → Policy → Policy → ℕ → ℕ → Type 0
LosesNothing sign one other s end =
    flat_map (lost_pair sign one other (at (types one.statements) s)) (take end (types one.statements)) ≡ []
