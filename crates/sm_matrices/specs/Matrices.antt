-- Rows of bits for pairs of types: for each source, its targets.
use Rattle.std.specs.Prelude.{◌≡◌, ℕ, Bool, true, false, ◌&&◌, ◌||◌, ◌+◌, ◌/◌, ◌%◌, ◌<◌, nat_eq, List, [], length, Option, Some, None, replicate}
use Rattle.std.specs.List.{list_any}
use Rattle.std.proofs.Common.{get_or}
use Rattle.sm_bits.specs.Bits.{has, row, has_bit}
use Rattle.sm_ruletext.specs.declared.statement.RuleKind.{RuleKind}
use Rattle.sm_types.specs.Names.{Name, at}
use Rattle.sm_types.specs.Denoting.{Policy}
use Rattle.sm_rules.specs.Access.{some_covers}
use Rattle.sm_rules.specs.Keeping.{joins, covered, class_at, perm_at}
use Rattle.sm_rules.specs.declared.kept.Kept.{Kept}

-- This is the matrix of a permission.
abbrev pub matrix : List (List (List ℕ)) → ℕ → List (List ℕ)
matrix matrices b = get_or matrices b []

-- There is a row for each type, with room for each type.
pub record Square (rows : List (List ℕ)) (n : ℕ) : Type 0 where
  pub count : length rows ≡ n
  pub room : (s : ℕ) → s < n → length (row rows s) ≡ n / 64 + 1

-- These are the rows of a matrix, or, if there is none, as many as this that are all this one.
abbrev pub layered : ℕ → List ℕ → Option (List (List ℕ)) → List (List ℕ)
layered count nothing (Some rows) = rows
layered count nothing None = replicate count nothing

-- The row has no bit, and room for each type.
pub record IsNothing (count : ℕ) (row : List ℕ) : Type 0 where
  pub room : length row ≡ count / 64 + 1
  pub none : (t : ℕ) → has row t ≡ false

-- The rows say what some rule covers for permission b.
pub record Compiled (rules : List Kept) (count b : ℕ) (rows : List (List ℕ)) : Type 0 where
  pub square : Square rows count
  pub says : (s t : ℕ) → s < count → has (row rows s) t ≡ covered rules b s t

-- There is a matrix for each of the first permissions.
pub record AllCompiled (rules : List Kept) (count n : ℕ) (matrices : List (List (List ℕ))) : Type 0 where
  pub number : length matrices ≡ n
  pub each : (b : ℕ) → b < n → Compiled rules count b (matrix matrices b)

-- The matrices say what the rules of the kind cover in the policy, whose types have these names.
pub record SayCovered (kind : RuleKind) (policy : Policy) (names : List Name) (matrices : List (List (List ℕ))) : Type 0
  where
    pub says : (b s t : ℕ) → b < 7 → s < length names → t < length names → has (row (matrix matrices b) s) t
        ≡ some_covers kind policy (at names s) (at names t) (class_at b) (perm_at b)

-- There is a matrix of the right size for each permission.
pub record AllSquare (matrices : List (List (List ℕ))) (count : ℕ) : Type 0 where
  pub each : (b : ℕ) → b < 7 → Square (matrix matrices b) count

-- ---- rules by the set of their permissions

-- These are the permissions of a rule as a number below 128, with a bit for each.
abbrev pub perm_set : Kept → ℕ
perm_set rule = rule.perms.0 % 128

-- A rule has exactly these permissions.
abbrev pub is_of_set : ℕ → Kept → Bool
is_of_set set rule = nat_eq (perm_set rule) set

-- The row has the sets of permissions that the rules have, with room for all 128.
pub record AreSetsOf (rules : List Kept) (sets : List ℕ) : Type 0 where
  pub room : length sets ≡ 2
  pub says : (set : ℕ) → has sets set ≡ list_any (is_of_set set) rules

-- Some rule has exactly these permissions, and joins the two types.
abbrev pub joined_by : List Kept → ℕ → ℕ → ℕ → Bool
joined_by rules set s t = list_any (λ r. joins s t r && is_of_set set r) rules

-- The rows say what the rules of exactly these permissions join.
pub record Grouped (rules : List Kept) (count set : ℕ) (rows : List (List ℕ)) : Type 0 where
  pub square : Square rows count
  pub says : (s t : ℕ) → s < count → has (row rows s) t ≡ joined_by rules set s t

-- Besides their old pairs, the matrices have these for each permission of a set.
pub record Joined (old new : List (List (List ℕ))) (count set : ℕ) (pairs : ℕ → ℕ → Bool) : Type 0 where
  pub number : length new ≡ 7
  pub square : AllSquare new count
  pub says : (b s t : ℕ) → b < 7 → s < count → has (row (matrix new b) s) t
      ≡ (has (row (matrix old b) s) t || (has_bit set b && pairs s t))

-- The rows have the pairs that the matrices have for the permissions of a set below n, and no others.
pub record IsUnion (matrices : List (List (List ℕ))) (count set n : ℕ) (rows : List (List ℕ)) : Type 0 where
  pub square : Square rows count
  pub all : (b s t : ℕ) → b < n → s < count → has_bit set b ≡ true → has (row (matrix matrices b) s) t ≡ true
      → has (row rows s) t ≡ true
  pub only : (s t : ℕ) → s < count → has (row rows s) t ≡ true
      → (b : ℕ) × (b < n) × (has_bit set b ≡ true) × (has (row (matrix matrices b) s) t ≡ true)

-- ---- all rows of a matrix

-- The row has the sources that the rows join to themselves.
pub record IsDiagonal (rows : List (List ℕ)) (count : ℕ) (own : List ℕ) : Type 0 where
  pub says : (s : ℕ) → s < count → has own s ≡ has (row rows s) s

-- The row has the targets of each source.
pub record HaveTargets (rows : List (List ℕ)) (count : ℕ) (targets : List ℕ) : Type 0 where
  pub all : (s t : ℕ) → s < count → has (row rows s) t ≡ true → has targets t ≡ true
