-- The exchange that records a book keeps the rule.
use Rattle.std.proofs.Common.{◌≡◌, ℕ, zero, suc, ◌+◌, ◌<◌, ◌≤◌, ◌==◌, Bool, true, false, List, [], ◌∷◌, ◌++◌, length}
use Rattle.std.proofs.Common.{refl, ap, sym, subst, arith, inl, length-append, None, ◌∙◌}
use Rattle.std.proofs.lemmas.List.{append-nil}
use Rattle.std.proofs.lemmas.Bool.Decides.{nat_tests}
use mathlib.Core.List.{IsPrefix}
use prog.Atomic.{either}
use Rattle.logbook.specs.Pages.{Cell, View, cell, keeps, no_nib, step, Moves, Goes}
use Rattle.sm_history.specs.Books.{Book}
use Rattle.sm_door.specs.Registries.{IsKept, Adds, registered}

-- A beginning as long as the whole is the whole.
pub prefix_whole : {A : Type 0} (xs ys : List A) → IsPrefix xs ys → length ys ≤ length xs → xs ≡ ys
prefix_whole [] [] p le = refl
prefix_whole [] (y ∷ ys) p le = absurd (omega arith)
prefix_whole (x ∷ xs) [] p le = absurd (cc (p.1))
prefix_whole (x ∷ xs) (y ∷ ys) p le =
    let rest = prefix_whole xs ys (p.0, cc (p.1)) (omega arith) in cc (p.1, rest)

-- What is in a prefix is in the whole, at the same number.
pub registered_prefix : (xs ys : List Book) (k : ℕ) → IsPrefix xs ys → k < length xs → registered ys k ≡ registered xs k
registered_prefix [] ys k p less = absurd (omega arith)
registered_prefix (x ∷ xs) [] k p less = absurd (cc (p.1))
registered_prefix (x ∷ xs) (y ∷ ys) zero p less = cc (p.1)
registered_prefix (x ∷ xs) (y ∷ ys) (suc k) p less = registered_prefix xs ys k (p.0, cc (p.1)) (omega arith)

-- The last number is that of the book that was registered last.
pub registered_last : (xs : List Book) (b : Book) (k : ℕ) → k ≡ length xs → registered (xs ++ b ∷ []) k ≡ b
registered_last xs b k is = ap (registered (xs ++ b ∷ [])) is ∙ at xs
  where
    at : (ys : List Book) → registered (ys ++ b ∷ []) (length ys) ≡ b
    at [] = refl
    at (y ∷ ys) = at ys

-- Nothing is shown of a log, and no update moves.
abbrev pub shown : List Book → List Book
shown log = []

abbrev pub moved : List Book → List Book → ℕ → Type 0
moved xs ys n = Unit {0}

-- The word after the exchange, and the result of the exchange.
abbrev pub exchanged : ℕ → ℕ → ℕ
exchanged old n = either (n == old) (old + 1) n

abbrev pub Tells : List Book → Book → ℕ → ℕ → View Book ℕ → Type 0
Tells v e old = Adds (step 0 old (old + 1) e) (v, (no_nib, None))

abbrev pub GoesOn : List Book → Book → ℕ → List Cell → List Book → Type 0
GoesOn v e old = Goes IsKept shown moved 0 (v, (no_nib, None)) (exchanged old) (Tells v e old)

adds_goes : (log v : List Book) (e : Book) (old : ℕ) → length v ≡ old → IsPrefix v log
    → (b : Bool) → (length log == old) ≡ b → GoesOn v e old ((length log, true) ∷ (0, true) ∷ []) log
adds_goes log v e old len pre true is =
    let here : length log ≡ old = grind (arith, nat_tests) in
    let same : v ≡ log = prefix_whole v log pre (omega arith) in
    let n : exchanged old (length log) ≡ length (log ++ e ∷ []) =
    rw is (omega (arith, length-append log (e ∷ []))) in (
      keeps,
      e ∷ [],
      None,
      tt,
      ap (λ (k : ℕ). (k, true) ∷ (0, true) ∷ []) n,
      inl (refl, refl),
      rw is (ap (λ w. w ++ e ∷ []) (sym same)),
    )
adds_goes log v e old len pre false is =
    let all : log ++ [] ≡ log = append-nil log in
    let n : exchanged old (length log) ≡ length (log ++ []) = rw is (ap length (sym all)) in (
      keeps,
      [],
      None,
      tt,
      ap (λ (k : ℕ). (k, true) ∷ (0, true) ∷ []) n,
      inl (refl, refl),
      rw is (ap length all),
    )

-- Whatever the registry is, the exchange records the book behind all that was seen, or finds that the registry is
-- longer.
pub adds_moves : (v : List Book) (e : Book) (old : ℕ) → length v ≡ old
    → Moves IsKept shown moved 0 (v, (no_nib, None)) (exchanged old) (Tells v e old)
adds_moves v e old len cs log kept pre away =
    let P : List Cell → Type 0 = λ c. (0 < length c) × ((cell c 0).1 ≡ true) × GoesOn v e old c log in
    subst P (sym kept) (omega arith, refl, adds_goes log v e old len pre (length log == old) refl)
