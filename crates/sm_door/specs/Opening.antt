-- The tokens of a new door, which have seen its opening, and read nothing.
use Rattle.std.specs.Prelude.{ℕ, zero, suc, List, [], ◌∷◌, ◌++◌}
use Rattle.sm_history.specs.declared.by.By.TheVariants.{Manager, Admin}
use Rattle.sm_history.specs.Books.{Book}
use Rattle.sm_history.specs.Tokens.{Knows, token}

-- These are n free seats, which are the manager's tokens.
unfoldable pub new_seats : Book → ℕ → List Knows
new_seats b zero = []
new_seats b (suc n) = new_seats b n ++ token Manager b 0 ∷ []

-- These are n administrators, numbered from 0.
unfoldable pub new_admins : Book → ℕ → List Knows
new_admins b zero = []
new_admins b (suc n) = new_admins b n ++ token (Admin (record { 0 = n })) b 0 ∷ []
