-- How many items of a list pass a test.
use Rattle.std.proofs.Common.{◌≡◌, ◌+◌, Bool, true, false, cond, List, ◌∷◌, length, filter, sym}
use Rattle.std.proofs.Common.{◌∙◌, arith}
use Rattle.std.specs.Prelude.{count_by}
use Rattle.std.proofs.lemmas.List.Sums.{length-filter}

-- The first item counts, or not.
pub count_cons : {X : Type 0} (p : X → Bool) (x : X) (xs : List X)
    → count_by p (x ∷ xs) ≡ cond (p x) (1 + count_by p xs) (count_by p xs)
count_cons p x xs =
    sym (length-filter p (x ∷ xs)) ∙ by (p x) (length-filter p xs) where
      by : (b : Bool) → length (filter p xs) ≡ count_by p xs
          → length (cond b (x ∷ filter p xs) (filter p xs)) ≡ cond b (1 + count_by p xs) (count_by p xs)
      by true e = omega (arith, e)
      by false e = e
