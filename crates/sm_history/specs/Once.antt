-- Lists in which each number is once, by a test.
use Rattle.std.specs.Prelude.{ℕ, ◌==◌, ◌&&◌, Bool, true, not, List, [], ◌∷◌}
use Rattle.std.specs.List.{list_any}

-- Each number is in the list once.
abbrev pub is_once : List ℕ → Bool
is_once [] = true
is_once (x ∷ xs) = not (list_any (λ y. y == x) xs) && is_once xs
