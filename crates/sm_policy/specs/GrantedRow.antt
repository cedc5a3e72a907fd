-- The permissions that a source is allowed on each type, as the bits of a byte.
use Rattle.std.specs.Prelude.{◌≡◌, ◌<◌, ℕ, Bool, List, length}
use Rattle.std.proofs.Common.{get_or}
use Rattle.sm_bits.specs.Bits.{has_bit}
use Rattle.sm_rules.specs.Keeping.{class_at, perm_at}
use Rattle.sm_types.specs.Denoting.{types}
use Rattle.sm_types.specs.Names.{at}
use Rattle.sm_policy.specs.Policy.{Policy, allowed}

-- The bits of the byte are the permissions that the policy allows the source on the target.
abbrev pub IsGranted : Policy → ℕ → List ℕ → List ℕ → Type 0
IsGranted policy granted s t = (b : ℕ) → b < 7 → has_bit granted b ≡ allowed policy s t (class_at b) (perm_at b)

-- The row has such a byte for each target, by its number. The source is given by its number.
abbrev pub IsRow : Policy → List ℕ → ℕ → Type 0
IsRow policy row s = (t : ℕ) → t < length (types policy.statements)
    → IsGranted policy (get_or row t 0) (at (types policy.statements) s) (at (types policy.statements) t)

-- A source is allowed permission b on a target, both given by their numbers.
abbrev pub granted : Policy → ℕ → ℕ → ℕ → Bool
granted policy s t b =
    allowed policy (at (types policy.statements) s) (at (types policy.statements) t) (class_at b) (perm_at b)
