-- Rows of bits as rules are added to them.
use Rattle.std.proofs.Common.{inl, inr, ◌≡◌, ℕ, ◌+◌, ◌-◌, ◌<◌, ◌≤◌, Bool, false, ◌||◌, List, [], ◌∷◌, ◌++◌}
use Rattle.std.proofs.Common.{length, refl, ◌∙◌, arith, length-append}
use Rattle.std.proofs.lemmas.Bool.{cases_lt}
use Rattle.std.proofs.lemmas.List.{get_or_append_left, get_or-append_right}
use Rattle.sm_bits.specs.Bits.{has, row}
use Rattle.sm_rules.specs.declared.kept.Kept.{Kept}
use Rattle.sm_matrices.specs.Matrices.{matrix, Square, Compiled, AllCompiled}

-- The rows below i have these pairs too, the others not yet.
pub record AddedPairs (old new : List (List ℕ)) (pairs : ℕ → ℕ → Bool) (i : ℕ) : Type 0 where
  pub square : Square new (length old)
  pub below : (s t : ℕ) → s < i → has (row new s) t ≡ (has (row old s) t || pairs s t)
  pub above : (s : ℕ) → i ≤ s → row new s ≡ row old s

-- Matrices, one more.
pub one_more_matrix : (P : ℕ → List (List ℕ) → Type 0) (ms new : List (List (List ℕ))) (m : List (List ℕ)) (n : ℕ)
    → new ≡ ms ++ m ∷ [] → length ms ≡ n → P n m
    → ((j : ℕ) → j < n → P j (matrix ms j)) → (j : ℕ) → j < n + 1 → P j (matrix new j)
one_more_matrix P ms new m n is number here before j h = rw is (elim (cases_lt j n) [
  | inl old ↦ (let inside : j < length ms = omega arith in
      rw (get_or_append_left ms (m ∷ []) [] j inside) (before j old))
  | inr end ↦ (let e : j ≡ n = omega arith in
      let z : j - length ms ≡ 0 = omega arith in
      rw (get_or-append_right ms (m ∷ []) (length ms) j [] refl (omega arith), z, e) here)
])

pub more_matrices : (ms new : List (List (List ℕ))) (m : List (List ℕ)) (n : ℕ) → new ≡ ms ++ m ∷ [] → length ms ≡ n
    → length new ≡ n + 1
more_matrices ms new m n is number = rw is (length-append ms (m ∷ []) ∙ omega arith)

pub compiled_none : (rules : List Kept) (count : ℕ) → AllCompiled rules count 0 []
compiled_none rules count = record { number = refl; each = λ b h. absurd (omega arith) }

pub compiled_more : (rules : List Kept) (count n : ℕ) (ms new : List (List (List ℕ))) (m : List (List ℕ))
    → new ≡ ms ++ m ∷ [] → Compiled rules count n m
    → AllCompiled rules count n ms → AllCompiled rules count (n + 1) new
compiled_more rules count n ms new m is here before = record {
  number = more_matrices ms new m n is before.number;
  each = one_more_matrix (λ b rows. Compiled rules count b rows) ms new m n is before.number here before.each;
}

-- A matrix of no pair says what no rule covers.
pub compiled_empty : (count b : ℕ) (m : List (List ℕ)) → Square m count → ((s t : ℕ) → has (row m s) t ≡ false)
    → Compiled [] count b m
compiled_empty count b m square none = record { square = square; says = λ s t h. none s t }

-- The row has those of the sources below i that are targets of their own.
pub record OwnTo (rows : List (List ℕ)) (own : List ℕ) (words i : ℕ) : Type 0 where
  pub room : length own ≡ words
  pub below : (s : ℕ) → s < i → has own s ≡ has (row rows s) s
  pub above : (s : ℕ) → i ≤ s → has own s ≡ false
