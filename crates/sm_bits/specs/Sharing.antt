-- Sets that are kept as a single number or as a row.
use Rattle.std.specs.Prelude.{ℕ, ◌/◌, ◌%◌, ◌^◌, List, replicate, slice_set}
use Rattle.std.specs.Arc.{arc_value}
use Rattle.sm_bits.specs.declared.shared_set.Shape.{Shape, TheVariants.One, TheVariants.Many}

-- This is the row of `words` words with the number i alone; it is empty if i is past its end.
unfoldable pub one_row : ℕ → ℕ → List ℕ
one_row words i = slice_set (replicate words 0) (i / 64) (2 ^ (i % 64))

-- This is the row of a set of this shape; a single number is in a row of this many words.
abbrev pub row_of : ℕ → Shape → List ℕ
row_of words (One i) = one_row words i
row_of words (Many row) = arc_value row
