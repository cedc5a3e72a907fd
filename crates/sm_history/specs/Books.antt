-- A history and the number of its journal's slots.
use Rattle.std.specs.Prelude.{ℕ}
use Rattle.sm_history.specs.Histories.{History}

-- A history with the number of entries that its open segment may have.
pub record Book : Type 0 where
  pub places : ℕ
  pub history : History
