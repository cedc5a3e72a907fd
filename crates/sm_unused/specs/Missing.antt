-- The accesses that no rule of some covers, by the numbers of types and permissions.
use Rattle.std.specs.Prelude.{◌≡◌, ℕ, Bool, not, ◌<◌, List, length}
use Rattle.sm_bits.specs.Bits.{has, row}
use Rattle.sm_matrices.specs.Matrices.{AllSquare, matrix}
use Rattle.sm_ruletext.specs.declared.rule.Rule.{Rule}
use Rattle.sm_ruletext.specs.declared.statement.Statement.{Statement}
use Rattle.sm_types.specs.Denoting.{types}
use Rattle.sm_types.specs.Names.{at}
use Rattle.sm_unused.specs.Unused.{some_cover}
use Rattle.sm_unused.specs.declared.missing.Missing.{Missing}

-- The rows of a permission have a pair of types.
abbrev pub is_missing : List (List (List ℕ)) → ℕ → ℕ → ℕ → Bool
is_missing pairs b s t = has (row (matrix pairs b) s) t

-- There are rows for each permission, with room for each type.
pub record IsTable (count : ℕ) (pairs : List (List (List ℕ))) : Type 0 where
  pub number : length pairs ≡ 7
  pub square : AllSquare pairs count

-- The rows are for the types of the policy, and have exactly the accesses that none of these rules covers.
pub record AreMissing (policy : List Statement) (rules : List (ℕ × Rule)) (missing : Missing) : Type 0 where
  pub count : missing.count ≡ length (types policy)
  pub table : IsTable (length (types policy)) missing.pairs.items
  pub says : (b s t : ℕ) → b < 7 → s < length (types policy) → t < length (types policy)
      → is_missing missing.pairs.items b s t ≡ not (some_cover policy rules (at (types policy) s) (at (types policy) t) b)
