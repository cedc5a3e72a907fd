-- The place of a name in a list.
use Rattle.std.proofs.Common.{◌≡◌, Bool, List, [], ◌∷◌, is_some, refl, arith}
use Rattle.std.specs.Prelude.{position}
use Rattle.std.specs.List.{list_any}
use Rattle.std.proofs.lemmas.Grind.{common_steps}

-- There is a place if the list has such an element.
pub some_place : {A : Type 0} (p : A → Bool) (xs : List A) → is_some (position p xs) ≡ list_any p xs
some_place p [] = refl
some_place p (x ∷ xs) = grind (arith, common_steps, some_place p xs)
