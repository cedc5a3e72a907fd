-- The tokens of a new door, counted one by one.
use Rattle.std.proofs.Common.{◌≡◌, ℕ, ◌+◌, [], ◌∷◌, ◌++◌, refl}
use Rattle.sm_history.specs.declared.by.By.TheVariants.{Manager, Admin}
use Rattle.sm_history.specs.Books.{Book}
use Rattle.sm_history.specs.Tokens.{token}
use Rattle.sm_door.specs.Opening.{new_seats, new_admins}
use native.Mathlib.Numerals.{unary_clauses}

pub no_seats : (b : Book) → [] ≡ new_seats b 0
unfolding new_seats
no_seats b = refl

pub more_seats : (b : Book) (n : ℕ) → new_seats b n ++ token Manager b 0 ∷ [] ≡ new_seats b (n + 1)
unfolding new_seats
more_seats b n = simp unary_clauses refl

pub no_admins : (b : Book) → [] ≡ new_admins b 0
unfolding new_admins
no_admins b = refl

pub more_admins : (b : Book) (n : ℕ)
    → new_admins b n ++ token (Admin (record { 0 = n })) b 0 ∷ [] ≡ new_admins b (n + 1)
unfolding new_admins
more_admins b n = simp unary_clauses refl
