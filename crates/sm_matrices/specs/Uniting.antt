-- The unions of all subsets of a few rows, and what rules and sources have by them.
use Rattle.std.specs.Prelude.{◌≡◌, ℕ, zero, suc, Bool, ◌&&◌, ◌||◌, ◌+◌, ◌/◌, ◌^◌, ◌<◌, ◌≤◌, false, nat_eq, List, length}
use Rattle.std.proofs.Common.{get_or}
use Rattle.sm_bits.specs.Bits.{has, row, has_bit}
use Rattle.sm_matrices.specs.Matrices.{Square}
use Rattle.sm_matrices.specs.declared.batch.Batch.{Batch}
use Rattle.sm_matrices.specs.declared.gathered.Gathered.{Gathered}

-- Each row has this number of words.
pub record AreWide (words : ℕ) (rows : List (List ℕ)) : Type 0 where
  pub room : (p : ℕ) → p < length rows → length (row rows p) ≡ words

-- The new rows are the old ones, followed by the union of each with one more row.
pub record Doubled (old new : List (List ℕ)) (more : List ℕ) : Type 0 where
  pub number : length new ≡ length old + length old
  pub kept : (p : ℕ) → p < length old → row new p ≡ row old p
  pub joined : (p t : ℕ) → p < length old → has (row new (length old + p)) t ≡ (has (row old p) t || has more t)

-- ---- unions of rows that follow each other

-- Of the k rows from the first on, some row whose bit is in p has t.
unfoldable pub any_row : List (List ℕ) → ℕ → ℕ → ℕ → ℕ → Bool
any_row rows first p zero t = false
any_row rows first p (suc k) t = any_row rows first p k t || (has_bit p k && has (row rows (first + k)) t)

-- At each index p is the union of those of the k rows from the first on whose bit is in p.
pub record Unites (rows : List (List ℕ)) (first k : ℕ) (unions : List (List ℕ)) : Type 0 where
  pub number : length unions ≡ 2 ^ k
  pub says : (p t : ℕ) → p < 2 ^ k → has (row unions p) t ≡ any_row rows first p k t

-- ---- rules whose targets are joined together

-- The batch has the pair of types.
abbrev pub in_batch : Batch → ℕ → ℕ → Bool
in_batch batch s t = has (row batch.unions (get_or batch.places.items s 0)) t

-- There is an index for each source, and the first union is empty.
pub record FitsBatch (count : ℕ) (batch : Batch) : Type 0 where
  pub few : length batch.unions ≤ 256
  pub wide : AreWide (count / 64 + 1) batch.unions
  pub none : (t : ℕ) → has (row batch.unions 0) t ≡ false
  pub sources : length batch.places.items ≡ count
  pub inside : (s : ℕ) → s < count → get_or batch.places.items s 0 < length batch.unions

-- The pair is in the rows, in the batch, or of a source that is its own target.
abbrev pub in_gathered : Gathered → ℕ → ℕ → Bool
in_gathered gathered s t = has (row gathered.rows.items s) t || in_batch gathered.batch s t
    || (has gathered.own s && nat_eq s t)

-- The parts fit the number of types.
pub record FitsGathered (count : ℕ) (gathered : Gathered) : Type 0 where
  pub square : Square gathered.rows.items count
  pub own : length gathered.own ≡ count / 64 + 1
  pub batch : FitsBatch count gathered.batch
