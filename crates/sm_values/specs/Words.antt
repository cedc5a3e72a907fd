-- Eight or four bytes.
use Rattle.std.specs.Prelude.{ℕ, ◌+◌, List, [], ◌∷◌}
use Rattle.std.proofs.Common.{get_or}

-- These are the eight bytes from an index on.
abbrev pub eight : List ℕ → ℕ → List ℕ
eight xs i =
    get_or xs i 0 ∷ get_or xs (i + 1) 0 ∷ get_or xs (i + 2) 0 ∷ get_or xs (i + 3) 0 ∷ get_or xs (i + 4) 0
    ∷ get_or xs (i + 5) 0 ∷ get_or xs (i + 6) 0 ∷ get_or xs (i + 7) 0 ∷ []

-- These are the four bytes from an index on.
abbrev pub four : List ℕ → ℕ → List ℕ
four xs i = get_or xs i 0 ∷ get_or xs (i + 1) 0 ∷ get_or xs (i + 2) 0 ∷ get_or xs (i + 3) 0 ∷ []
