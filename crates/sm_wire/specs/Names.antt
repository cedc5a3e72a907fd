-- Names by their ends.
use Rattle.std.specs.Prelude.{◌≡◌, ◌≤◌, ◌-◌, ℕ, List, length, take, drop}
use Rattle.std.specs.Int.{w64, from_le_bytes}

-- The bytes have these first and last eight, as numbers.
pub record HasEnds (bytes : List ℕ) (first last : ℕ) : Type 0 where
  pub long : 8 ≤ length bytes
  pub first_is : first ≡ from_le_bytes w64 (take 8 bytes)
  pub last_is : last ≡ from_le_bytes w64 (drop (length bytes - 8) bytes)
