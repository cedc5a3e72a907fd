-- The rule over the published view: what a slot has seen is a beginning of the published history.
use Rattle.std.specs.Prelude.{◌≡◌, ℕ, ◌+◌, List}
use mathlib.Core.Option.{some}
use lib.ListN.{get_elem?}
use Rattle.sm_history.specs.Books.{Book}
use Rattle.sm_history.specs.BookOrder.{Begins}
use Rattle.sm_door.specs.declared.published.ReaderKnowledge.{ReaderKnowledge}

-- A slot knows this book and has read this often.
abbrev pub known : Book → ℕ → ReaderKnowledge
known b reads = record { seen = b; reads = reads }

-- The history begins with the one of the opening, and with what each slot has seen.
abbrev pub Keeps : Book → Book → List ReaderKnowledge → Type 0
Keeps opening b views = Begins b opening
    × ((seat : ℕ) (v : ReaderKnowledge) → get_elem? views seat ≡ some v → Begins b v.seen)

-- A reader takes the published history x, which begins with what it had seen, and has read once more.
abbrev pub Enters : ReaderKnowledge → Book → ReaderKnowledge → Type 0
Enters v x w = Begins x v.seen × (w ≡ known x (v.reads + 1))
