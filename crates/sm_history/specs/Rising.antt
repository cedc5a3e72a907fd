-- Names in rising byte order.
use Rattle.std.specs.Prelude.{ℕ, ◌≡◌, true, List, [], ◌∷◌}
use Rattle.std.specs.List.{list_all}
use Rattle.std.specs.Ordering.{nat_cmp, is_lt}
use Rattle.std.specs.Cmp.Lexicographic.{slice_cmp}

-- A name comes before each of others.
abbrev pub AllAfter : List ℕ → List (List ℕ) → Type 0
AllAfter name ns = list_all (λ y. is_lt (slice_cmp nat_cmp name y)) ns ≡ true

-- Each name comes before those after it, so no name is there twice.
abbrev pub IsRising : List (List ℕ) → Type 0
IsRising [] = Unit {0}
IsRising (x ∷ xs) = AllAfter x xs × IsRising xs
