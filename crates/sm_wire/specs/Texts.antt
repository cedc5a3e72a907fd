-- The files after a `reload` line.
use Rattle.std.specs.Prelude.{ℕ, List}

-- A `reload` line has these files after it.
pub record Texts : Type 0 where
  pub expected : ℕ
  pub rules : List ℕ
  pub contexts : List ℕ
