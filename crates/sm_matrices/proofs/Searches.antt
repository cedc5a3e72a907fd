-- Searches in lists.
use Rattle.std.proofs.Common.{◌≡◌, ℕ, Bool, true, List, [], ◌∷◌, length, Some, refl, sym, slice_get}
use Rattle.std.specs.List.{list_any}
use Rattle.std.proofs.lemmas.List.Folds.{list_any_at, Any-from_list_any}
use Rattle.std.proofs.lemmas.Option.{get_or_from_slice_get, slice_get_read, slice_get_within}

-- Some item passes: one at some place.
pub some_at : {X : Type 0} (p : X → Bool) (xs : List X) → list_any p xs ≡ true
    → (i : ℕ) × (x : X) × (slice_get xs i ≡ Some x) × (p x ≡ true)
some_at p xs h =
    let found = Any-from_list_any p xs h in
    (found.0, found.1, slice_get_read xs (length xs) found.0 found.1 refl found.2 (sym found.3), found.4)

-- The item at some place passes: some item does.
pub any_at : {X : Type 0} (p : X → Bool) (xs : List X) (i : ℕ) (x : X) → slice_get xs i ≡ Some x → p x ≡ true
    → list_any p xs ≡ true
any_at p xs i x found h =
    list_any_at p xs i x (slice_get_within xs i x found) (rw (get_or_from_slice_get xs i x x found) h)

-- Two tests that agree at each item.
pub any_same : {X : Type 0} (p q : X → Bool) (xs : List X) → ((x : X) → p x ≡ q x) → list_any p xs ≡ list_any q xs
any_same p q [] e = refl
any_same p q (x ∷ xs) e = rw (e x, any_same p q xs e) refl
