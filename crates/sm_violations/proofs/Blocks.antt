-- Bounds, one after the other.
use Rattle.std.proofs.Common.{inl, inr, ◌≡◌, ℕ, ◌+◌, ◌-◌, ◌/◌, ◌<◌, List, [], ◌∷◌, ◌++◌, length, refl, arith, get_or}
use Rattle.std.proofs.lemmas.Bool.{cases_lt}
use Rattle.std.proofs.lemmas.List.{get_or_append_left, get_or-append_right}
use Rattle.sm_bits.specs.Bits.{row}
use Rattle.sm_matrices.specs.Matrices.{matrix}
use Rattle.sm_violations.specs.Bounding.{Bound, BoundsBlock}
use Rattle.sm_violations.specs.declared.bounds.Bounds.{Bounds}

-- What holds of each item holds if one more is appended of which it holds.
pub one_more : {A : Type 0} (P : ℕ → A → Type 0) (xs : List A) (x d : A) → P (length xs) x
    → ((k : ℕ) → k < length xs → P k (get_or xs k d))
    → (k : ℕ) → k < length xs + 1 → P k (get_or (xs ++ x ∷ []) k d)
one_more P xs x d here before k h = elim (cases_lt k (length xs)) [
  | inl old ↦ rw (get_or_append_left xs (x ∷ []) d k old) (before k old)
  | inr end ↦ (let e : k ≡ length xs = omega arith in
      let z : k - length xs ≡ 0 = omega arith in
      rw (get_or-append_right xs (x ∷ []) (length xs) k d refl (omega arith), z, e) here)
]

-- The bounds of the blocks below n.
pub record BlocksBelow (rows : List (List ℕ)) (count n : ℕ) (blocks : List (List ℕ)) : Type 0 where
  pub room : (k : ℕ) → k < n → length (row blocks k) ≡ count / 64 + 1
  pub bounds : (k : ℕ) → k < n → BoundsBlock rows count k (row blocks k)

pub blocks_none : (rows : List (List ℕ)) (count : ℕ) → BlocksBelow rows count 0 []
blocks_none rows count = record { room = λ k h. absurd (omega arith); bounds = λ k h. absurd (omega arith) }

pub blocks_more : (rows : List (List ℕ)) (count n : ℕ) (old new : List (List ℕ)) (bound : List ℕ)
    → new ≡ old ++ bound ∷ [] → length old ≡ n → length bound ≡ count / 64 + 1 → BoundsBlock rows count n bound
    → BlocksBelow rows count n old → BlocksBelow rows count (n + 1) new
blocks_more rows count n old new bound is number room bounds before = rw (is, ← number) (record {
  room = one_more (λ _ row. length row ≡ count / 64 + 1) old bound [] room (rw (← number) at before.room);
  bounds = one_more (λ k row. BoundsBlock rows count k row) old bound [] (rw (← number) at bounds)
      (rw (← number) at before.bounds);
})

-- The bounds of the matrices below n.
pub record BoundBelow (matrices : List (List (List ℕ))) (count n : ℕ) (all : List Bounds) : Type 0 where
  pub each : (b : ℕ) (none : Bounds) → b < n → Bound (matrix matrices b) count (get_or all b none)

pub bound_none : (matrices : List (List (List ℕ))) (count : ℕ) → BoundBelow matrices count 0 []
bound_none matrices count = record { each = λ b none h. absurd (omega arith) }

pub bound_more : (matrices : List (List (List ℕ))) (count n : ℕ) (old new : List Bounds) (bounds : Bounds)
    → new ≡ old ++ bounds ∷ [] → length old ≡ n → Bound (matrix matrices n) count bounds
    → BoundBelow matrices count n old → BoundBelow matrices count (n + 1) new
bound_more matrices count n old new bounds is number here before = rw (is, ← number) (record {
  each = λ b none h. one_more (λ k (x : Bounds). Bound (matrix matrices k) count x) old bounds none
      (rw (← number) at here) (λ k g. (rw (← number) at before.each) k none g) b h;
})
