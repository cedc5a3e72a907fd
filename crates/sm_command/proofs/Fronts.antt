-- The first bytes of a reader.
use Rattle.std.proofs.Common.{◌≡◌, ℕ, arith, List, take, Option, Some, None, IfSome, option_map, ◌∙◌}
use Rattle.std.proofs.lemmas.List.{take-take}

-- What was read up to a limit, and cut off there, is the front of all.
pub front : (left : Option (List ℕ)) (limit : ℕ) (held cut : List ℕ) → IfSome (option_map (take limit) left)
    (λ xs. held ≡ xs)
    → cut ≡ take limit held → IfSome left (λ xs. cut ≡ take limit xs)
front None limit held cut p q = tt
front (Some xs) limit held cut p q = q ∙ rw p (take-take limit limit xs (omega arith))
