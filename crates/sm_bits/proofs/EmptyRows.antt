-- Several rows of bits, one more.
use Rattle.std.proofs.Common.{inl, inr, ◌≡◌, ℕ, ◌+◌, ◌-◌, ◌<◌, ◌≤◌, false, List, [], ◌∷◌, ◌++◌, length, refl, ap, ◌∙◌}
use Rattle.std.proofs.Common.{arith, length-append}
use Rattle.std.proofs.lemmas.Bool.{cases_eq, cases_lt}
use Rattle.std.proofs.lemmas.List.{get_or_append_left, get_or-append_right, get_or_past}
use Rattle.sm_bits.specs.Bits.{has, row}
use Rattle.sm_bits.proofs.Words.{has_past}

-- n empty rows of w words.
pub record Empty (rows : List (List ℕ)) (n w : ℕ) : Type 0 where
  pub count : length rows ≡ n
  pub room : (s : ℕ) → s < n → length (row rows s) ≡ w
  pub none : (s t : ℕ) → has (row rows s) t ≡ false

row_old : (rows : List (List ℕ)) (r : List ℕ) (a : ℕ) → a < length rows → row (rows ++ r ∷ []) a ≡ row rows a
row_old rows r a h = get_or_append_left rows (r ∷ []) [] a h

row_new : (rows : List (List ℕ)) (r : List ℕ) (a : ℕ) → a ≡ length rows → row (rows ++ r ∷ []) a ≡ r
row_new rows r a h = get_or-append_right rows (r ∷ []) (length rows) a [] refl (omega arith)
    ∙ (let z : a - length rows ≡ 0 = omega arith in rw z refl)

pub row_past : (rows : List (List ℕ)) (a i : ℕ) → length rows ≤ a → has (row rows a) i ≡ false
row_past rows a i h = rw (get_or_past rows a [] h) (has_past [] i (omega arith))

pub empty_none : (w : ℕ) → Empty [] 0 w
empty_none w = record { count = refl; room = λ a h. absurd (omega arith); none = λ a i. row_past [] a i (omega arith) }

pub empty_more : (rows new : List (List ℕ)) (r : List ℕ) (n w : ℕ) → new ≡ rows ++ r ∷ [] → length r ≡ w
    → ((i : ℕ) → has r i ≡ false) → Empty rows n w → Empty new (n + 1) w
empty_more rows new r n w is wide nothing before = rw is (record {
  count = length-append rows (r ∷ []) ∙ (omega (arith, before.count));
  room = λ a h. elim (cases_lt a (length rows)) [
    | inl old ↦ ap length (row_old rows r a old) ∙ before.room a (omega (arith, before.count))
    | inr new ↦ ap length (row_new rows r a (omega (arith, before.count))) ∙ wide
  ];
  none = λ a i. elim (cases_lt a (length rows)) [
    | inl old ↦ rw (row_old rows r a old) (before.none a i)
    | inr new ↦ elim (cases_eq a (length rows)) [
      | inl at ↦ rw (row_new rows r a at) (nothing i)
      | inr off ↦ row_past (rows ++ r ∷ []) a i (omega (arith, length-append rows (r ∷ [])))
    ]
  ];
})
