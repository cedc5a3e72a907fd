-- Sets of small numbers as rows of words, a bit for each number, 64 numbers a word.
use Rattle.std.specs.Prelude.{ℕ, Bool, ◌==◌, ◌/◌, ◌%◌, List, []}
use Rattle.std.specs.Int.{bit_at}
use Rattle.std.proofs.Common.{get_or}

-- A set has i; a number past the row is not in it.
unfoldable pub has : List ℕ → ℕ → Bool
has words i = bit_at (get_or words (i / 64) 0) (i % 64) == 1

-- Whether bit b of a number is 1.
unfoldable pub has_bit : ℕ → ℕ → Bool
has_bit n b = bit_at n b == 1

-- The row i of several; one past the last is empty.
abbrev pub row : List (List ℕ) → ℕ → List ℕ
row rows i = get_or rows i []
