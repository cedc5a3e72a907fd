-- What has at least the pairs of matrices.
use Rattle.std.specs.Prelude.{◌≡◌, ℕ, true, ◌+◌, ◌*◌, ◌/◌, ◌<◌, ◌≤◌, List, length}
use Rattle.std.proofs.Common.{get_or}
use Rattle.sm_bits.specs.Bits.{has, row}
use Rattle.sm_matrices.specs.Matrices.{matrix}
use Rattle.sm_violations.specs.declared.bounds.Bounds.{Bounds}

-- The row has the targets of the sources of a block: of 64 that follow each other.
pub record BoundsBlock (rows : List (List ℕ)) (count block : ℕ) (bound : List ℕ) : Type 0 where
  pub targets : (s t : ℕ) → 64 * block ≤ s → s < 64 * block + 64 → s < count → has (row rows s) t ≡ true
      → has bound t ≡ true

-- There are such rows for all sources, and a row has the sources that are targets of their own.
pub record Bound (rows : List (List ℕ)) (count : ℕ) (bounds : Bounds) : Type 0 where
  pub number : length bounds.blocks.items ≡ count / 64 + 1
  pub room : (k : ℕ) → k < length bounds.blocks.items → length (row bounds.blocks.items k) ≡ count / 64 + 1
  pub blocks : (k : ℕ) → k < length bounds.blocks.items → BoundsBlock rows count k (row bounds.blocks.items k)
  pub own_room : length bounds.own ≡ count / 64 + 1
  pub own : (s : ℕ) → s < count → has (row rows s) s ≡ true → has bounds.own s ≡ true

-- There are bounds for the matrix of each permission.
pub record AllBound (matrices : List (List (List ℕ))) (count : ℕ) (all : List Bounds) : Type 0 where
  pub number : length all ≡ 7
  pub each : (b : ℕ) (none : Bounds) → b < 7 → Bound (matrix matrices b) count (get_or all b none)
