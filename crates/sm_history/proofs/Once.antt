-- Lists that pass the test whether each number is in them once.
use Rattle.std.proofs.Common.{◌≡◌, ℕ, Bool, true, false, ◌&&◌, ◌==◌, List, [], ◌∷◌, refl}
use Rattle.std.specs.Prelude.{not}
use Rattle.std.specs.List.{list_any}
use Rattle.sm_history.specs.Once.{is_once}
use Rattle.sm_history.specs.Sound.{IsOnce}

split_once : (b t : Bool) → (not b && t) ≡ true → (b ≡ false) × (t ≡ true)
split_once true t e = cc
split_once false t e = (refl, e)

pub to_once : (xs : List ℕ) → is_once xs ≡ true → IsOnce xs
to_once [] e = tt
to_once (x ∷ xs) e = let p = split_once (list_any (λ y. y == x) xs) (is_once xs) e in (p.0, to_once xs p.1)

pub from_once : (xs : List ℕ) → IsOnce xs → is_once xs ≡ true
from_once [] h = refl
from_once (x ∷ xs) h = rw (h.0, from_once xs h.1) refl
