-- The bytes of a line of a policy source or a contexts file.
use Rattle.std.specs.Prelude.{ℕ, Bool, not, ◌||◌, ◌==◌}

-- A byte isn't a line end.
abbrev pub is_in_line : ℕ → Bool
is_in_line b = not (b == 10)

-- A byte is a space, a tab or a carriage return.
abbrev pub is_blank : ℕ → Bool
is_blank b = (b == 32 || b == 9) || b == 13
