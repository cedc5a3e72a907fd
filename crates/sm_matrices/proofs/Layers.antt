-- The rows of a permission that no rule gives.
use Rattle.std.proofs.Common.{inl, inr, ◌≡◌, ℕ, ◌<◌, false, List, [], length, replicate, ap, ◌∙◌}
use Rattle.std.proofs.Common.{arith}
use Rattle.std.proofs.lemmas.Bool.{cases_lt}
use Rattle.std.proofs.lemmas.List.{get_or-replicate, length-replicate}
use Rattle.sm_bits.specs.Bits.{has, row}
use Rattle.sm_bits.proofs.EmptyRows.{row_past}
use Rattle.sm_matrices.specs.Matrices.{Square, IsNothing}

pub row_of : (count s : ℕ) (r : List ℕ) → s < count → row (replicate count r) s ≡ r
row_of count s r h = get_or-replicate count s r [] h

pub no_square : (count : ℕ) (r : List ℕ) → IsNothing count r → Square (replicate count r) count
no_square count r nothing = record {
  count = length-replicate count r;
  room = λ s h. ap length (row_of count s r h) ∙ nothing.room;
}

pub no_pair : (count s t : ℕ) (r : List ℕ) → IsNothing count r → has (row (replicate count r) s) t ≡ false
no_pair count s t r nothing = elim (cases_lt s count) [
  | inl h ↦ rw (row_of count s r h) (nothing.none t)
  | inr h ↦ (let n = length-replicate count r in row_past (replicate count r) s t (omega arith))
]
