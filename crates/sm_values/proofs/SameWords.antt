-- Names whose words are the same.
use Rattle.std.proofs.Common.{◌≡◌, ℕ, zero, suc, ◌+◌, ◌-◌, ◌≤◌, ◌<◌, List, refl, ap, sym, ◌∙◌, subst}
use Rattle.std.proofs.Common.{length, get_or, arith, inl, inr}
use Rattle.std.proofs.lemmas.Bool.{cases_lt}
use Rattle.std.proofs.lemmas.Grind.{same_number_lists}
use Rattle.sm_values.specs.Words.{eight, four}

item_of : (xs : List ℕ) (i k : ℕ) → k < 8 → get_or (eight xs i) k 0 ≡ get_or xs (i + k) 0
item_of xs i zero lt = ap (λ v. get_or xs v 0) (let e : i ≡ i + 0 = omega arith in e)
item_of xs i (suc zero) lt = refl
item_of xs i (suc (suc zero)) lt = refl
item_of xs i (suc (suc (suc zero))) lt = refl
item_of xs i (suc (suc (suc (suc zero)))) lt = refl
item_of xs i (suc (suc (suc (suc (suc zero))))) lt = refl
item_of xs i (suc (suc (suc (suc (suc (suc zero)))))) lt = refl
item_of xs i (suc (suc (suc (suc (suc (suc (suc zero))))))) lt = refl
item_of xs i (suc (suc (suc (suc (suc (suc (suc (suc k)))))))) lt = absurd (omega (arith, lt))

-- The items of two lists are the same below an index.
abbrev pub AreSameBelow : List ℕ → List ℕ → ℕ → Type 0
AreSameBelow xs ys n = (j : ℕ) → j < n → get_or xs j 0 ≡ get_or ys j 0

-- Eight items more, or some of them again.
same_from : (xs ys : List ℕ) (i j : ℕ) → eight xs i ≡ eight ys i → i ≤ j → j < i + 8 → get_or xs j 0 ≡ get_or ys j 0
same_from xs ys i j e le lt =
    let at : i + (j - i) ≡ j = omega (arith, le) in
    let small : j - i < 8 = omega (arith, le, lt) in
    subst (λ v. get_or xs v 0 ≡ get_or ys v 0) at
    (sym (item_of xs i (j - i) small) ∙ ap (λ zs. get_or zs (j - i) 0) e ∙ item_of ys i (j - i) small)

pub same_more : (xs ys : List ℕ) (n i m : ℕ) → AreSameBelow xs ys n → eight xs i ≡ eight ys i → i ≤ n → m ≡ i + 8
    → AreSameBelow xs ys m
same_more xs ys n i m below e le is j lt = elim (cases_lt j n) [
  | inl less ↦ below j less
  | inr more ↦ same_from xs ys i j e (omega (arith, le, more)) (omega (arith, lt, is))
]

pub same_all : (xs ys : List ℕ) (m : ℕ) → length xs ≡ length ys → length xs ≤ m → AreSameBelow xs ys m → xs ≡ ys
same_all xs ys m long le below = same_number_lists xs ys long (λ k lt. below k (omega (arith, lt, le)))

half_of : (xs : List ℕ) (i k : ℕ) → k < 4 → get_or (four xs i) k 0 ≡ get_or xs (i + k) 0
half_of xs i zero lt = ap (λ v. get_or xs v 0) (let e : i ≡ i + 0 = omega arith in e)
half_of xs i (suc zero) lt = refl
half_of xs i (suc (suc zero)) lt = refl
half_of xs i (suc (suc (suc zero))) lt = refl
half_of xs i (suc (suc (suc (suc k)))) lt = absurd (omega (arith, lt))

-- Four items, of lists that are the same there.
same_in_half : (xs ys : List ℕ) (i j : ℕ) → four xs i ≡ four ys i → i ≤ j → j < i + 4 → get_or xs j 0 ≡ get_or ys j 0
same_in_half xs ys i j e le lt =
    let at : i + (j - i) ≡ j = omega (arith, le) in
    let small : j - i < 4 = omega (arith, le, lt) in
    subst (λ v. get_or xs v 0 ≡ get_or ys v 0) at
    (sym (half_of xs i (j - i) small) ∙ ap (λ zs. get_or zs (j - i) 0) e ∙ half_of ys i (j - i) small)

-- The first four items and the last four.
pub same_halves : (xs ys : List ℕ) (i : ℕ) → length xs ≡ length ys → four xs 0 ≡ four ys 0 → four xs i ≡ four ys i
    → length xs ≡ i + 4 → i ≤ 4 → xs ≡ ys
same_halves xs ys i long first last end le = same_number_lists xs ys long (λ k lt. elim (cases_lt k 4) [
  | inl less ↦ same_in_half xs ys 0 k first (omega arith) (omega (arith, less))
  | inr more ↦ same_in_half xs ys i k last (omega (arith, more, le)) (omega (arith, lt, end))
])
