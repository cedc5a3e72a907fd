-- The permissions of a record, one after the other.
use Rattle.std.proofs.Common.{◌≡◌, ℕ, ◌+◌, ◌<◌, Bool, true, false, ◌&&◌, List, [], ◌∷◌, ◌++◌, take}
use Rattle.std.proofs.Common.{get_or, refl, ◌∙◌, arith}
use Rattle.std.specs.List.{flat_map, list_all}
use Rattle.std.proofs.lemmas.List.{append-nil, take_more}
use Rattle.std.proofs.lemmas.List.Folds.{list_all-append}
use Rattle.std.proofs.lemmas.Grind.{flat_map-append}
use Rattle.sm_suggestions.specs.Suggesting.{perm_numbers}
use Rattle.sm_suggestions.specs.Tallying.{Count, counted_all}
use Rattle.sm_suggestions.proofs.Tables.{counted_append}

-- The permission at an index has this number.
pub number_at : (b : ℕ) → b < 7 → get_or perm_numbers b 0 ≡ b
number_at b lt = grind arith

next_numbers : (b : ℕ) → b < 7 → take (b + 1) perm_numbers ≡ take b perm_numbers ++ b ∷ []
next_numbers b lt = take_more perm_numbers b 0 (omega arith) ∙ rw (number_at b lt) refl

-- The lines for one more permission are counted.
pub lines_more : (f : ℕ → List (List ℕ)) (b : ℕ) (first old new : List Count) → b < 7
    → old ≡ counted_all first (flat_map f (take b perm_numbers)) → new ≡ counted_all old (f b)
    → new ≡ counted_all first (flat_map f (take (b + 1) perm_numbers))
lines_more f b first old new lt was is =
    is ∙ rw (
      was,
      next_numbers b lt,
      flat_map-append f (take b perm_numbers) (b ∷ []),
      append-nil (f b),
      counted_append first (flat_map f (take b perm_numbers)) (f b),
    ) refl

in_three : (a b c : Bool) → ((a && b) && c) ≡ (a && (b && (c && true)))
in_three true true true = refl
in_three true true false = refl
in_three true false c = refl
in_three false b c = refl

-- One more permission is granted, or not.
pub allowed_more : (p : ℕ → Bool) (b : ℕ) (first old new : Bool) → b < 7
    → old ≡ (first && list_all p (take b perm_numbers)) → new ≡ (old && p b)
    → new ≡ (first && list_all p (take (b + 1) perm_numbers))
allowed_more p b first old new lt was is =
    is ∙ rw (was, next_numbers b lt, list_all-append p (take b perm_numbers) (b ∷ []))
    (in_three first (list_all p (take b perm_numbers)) (p b))
