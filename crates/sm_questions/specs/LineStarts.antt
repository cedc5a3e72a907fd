-- Where the lines of a text begin.
use Rattle.std.specs.Prelude.{◌≡◌, ℕ, ◌<◌, ◌≤◌, List, [], length, drop, slice_index}
use Rattle.sm_contexts.specs.Lines.{lines}

-- From each of these places on the text has its lines from that of the index on, and there are no further lines.
pub record AreStarts (text starts : List ℕ) : Type 0 where
  pub within : (k : ℕ) → k < length starts → slice_index starts k ≤ length text
  pub from : (k : ℕ) → k < length starts → lines (drop (slice_index starts k) text) ≡ drop k (lines text)
  pub all : drop (length starts) (lines text) ≡ []
