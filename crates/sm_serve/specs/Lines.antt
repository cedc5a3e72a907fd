-- What a writer of whole lines does with a text, though a write may fail in the middle of a line.
use Rattle.std.specs.Prelude.{◌≡◌, ◌++◌, ◌-◌, ◌==◌, ◌⊎◌, ℕ, List, Option, codes, count_by, drop, length, slice_index}
use Rattle.std.specs.Prelude.{take, vec_capacity}
use Rattle.std.specs.Fmt.{decimal}
use Rattle.std.specs.Io.KnownBytes.{Appends}
use Rattle.sm_serve.specs.declared.log_lines.LogLines.{LogLines, TheVariants.Fixed, TheVariants.Made}

-- These are the bytes of lines of a log.
abbrev pub bytes_of : LogLines → List ℕ
bytes_of (Fixed bytes) = bytes.now
bytes_of (Made bytes) = bytes.items

-- They own this number of bytes of memory.
abbrev pub capacity_of : LogLines → ℕ
capacity_of (Fixed bytes) = 0
capacity_of (Made bytes) = vec_capacity bytes

-- This line says how many lines were lost.
abbrev pub lost_line : ℕ → List ℕ
lost_line lost = codes "warning: " ++ decimal lost ++ codes " lines were lost\n"

-- This is the number of lines that end in the text.
abbrev pub lines_in : List ℕ → ℕ
lines_in text = count_by (λ byte. byte == 10) text

-- No line goes on after this number of bytes: the text begins there, a line has ended, or the text ends.
abbrev pub BreaksAt : List ℕ → ℕ → Type 0
BreaksAt text n = (n ≡ 0) ⊎ ((slice_index text (n - 1) ≡ 10) ⊎ (n ≡ length text))

-- A line had been cut, and `rest` was left of it; then a text was to be written. The bytes that were written, and what
-- is left now, are that rest and the lines of the text that were begun. The other lines are lost.
pub record WritesLines (rest text : List ℕ) (w w_new : Option (List ℕ)) (left : List ℕ) (lost : ℕ) : Type 0 where
  pub written : List ℕ
  pub begun : ℕ
  pub appended : Appends w w_new written
  pub whole : written ++ left ≡ rest ++ take begun text
  pub breaks : BreaksAt text begun
  pub others : lost ≡ lines_in (drop begun text)
