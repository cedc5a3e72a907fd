-- The lines of a talk.
use Rattle.std.specs.Prelude.{ℕ, List, ◌++◌, codes, length}
use Rattle.sm_values.specs.Messages.{numbered}

-- This is a line, with its newline.
unfoldable pub line_of : List ℕ → List ℕ
line_of line = line ++ codes "\n"

-- This is a `reload` line with its files: the expected version, and the sizes of the files in bytes.
unfoldable pub reload_text : ℕ → List ℕ → List ℕ → List ℕ
reload_text expected rules contexts =
    numbered (codes "reload ") expected ++ numbered (codes " ") (length rules) ++ numbered (codes " ") (length contexts)
    ++ codes "\n" ++ rules ++ contexts
