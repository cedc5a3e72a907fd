-- The first line of a text, and the rest.
use Rattle.std.proofs.Common.{◌≡◌, ℕ, suc, ◌+◌, ◌<◌, ◌≤◌, true, false, not, cond, eqb, List, [], ◌∷◌, length, take}
use Rattle.std.proofs.Common.{drop, refl, arith}
use Rattle.std.specs.List.{prefix_len}
use Rattle.sm_values.specs.Lines.{is_in_line}
use Rattle.sm_contexts.specs.Lines.{lines, onto_first}

pub first_line : (bytes : List ℕ) → 0 < length bytes
    → lines bytes ≡ take (prefix_len is_in_line bytes) bytes ∷ lines (drop (prefix_len is_in_line bytes + 1) bytes)
unfolding lines
first_line [] some = absurd (omega arith)
first_line (b ∷ []) some =
    elim (eqb b 10) as (λ t. cond t ([] ∷ lines []) (onto_first b (lines [])) ≡ take (cond (not t) 1 0) (b ∷ [])
    ∷ lines (drop (cond (not t) 1 0 + 1) (b ∷ []))) [ true ↦ refl | false ↦ refl ]
first_line (b ∷ c ∷ bytes) some =
    let next = first_line (c ∷ bytes) (omega arith) in
    let m = prefix_len is_in_line (c ∷ bytes) in
    elim (eqb b 10) as (λ t. cond t ([] ∷ lines (c ∷ bytes)) (onto_first b (lines (c ∷ bytes)))
    ≡ take (cond (not t) (1 + m) 0) (b ∷ c ∷ bytes) ∷ lines (drop (cond (not t) (1 + m) 0 + 1) (b ∷ c ∷ bytes))) [
      | true ↦ refl
      | false ↦ go b (c ∷ bytes) m (lines (c ∷ bytes)) next
    ] where
      go : (b : ℕ) (bs : List ℕ) (m : ℕ) (ls : List (List ℕ)) → ls ≡ take m bs ∷ lines (drop (m + 1) bs)
          → onto_first b ls ≡ take (1 + m) (b ∷ bs) ∷ lines (drop (1 + m + 1) (b ∷ bs))
      go b bs m ls e =
          let one : 1 + m ≡ suc m = omega arith in
          let two : suc m + 1 ≡ suc (m + 1) = omega arith in
          rw (e, one, two) refl

length-onto : (b : ℕ) (ls : List (List ℕ)) → length (onto_first b ls) ≤ length ls + 1
length-onto b [] = omega arith
length-onto b (l ∷ ls) = omega arith

pub length-lines : (bytes : List ℕ) → length (lines bytes) ≤ length bytes
unfolding lines
length-lines [] = omega arith
length-lines (b ∷ bytes) =
    elim (eqb b 10) as (λ t. length (cond t ([] ∷ lines bytes) (onto_first b (lines bytes))) ≤ length (b ∷ bytes)) [
      | true ↦ omega (arith, length-lines bytes)
      | false ↦ omega (arith, length-lines bytes, length-onto b (lines bytes))
    ]

pub no_line : (bytes : List ℕ) → length bytes ≡ 0 → lines bytes ≡ []
unfolding lines
no_line [] e = refl
no_line (b ∷ bytes) e = absurd (omega arith)
