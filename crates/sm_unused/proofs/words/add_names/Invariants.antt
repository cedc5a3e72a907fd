use Rattle.std.proofs.Common.{◌≡◌, ◌||◌, ℕ, List, take}
use Rattle.std.specs.List.{list_any}
use Rattle.std.specs.Str.{bytes_eq}
use Rattle.sm_values.specs.Names.{contains}
use Rattle.sm_unused.proofs.words.add_names.Given as goal

abbrev pub invariant-loop-name : goal.invariant-loop-name
invariant-loop-name l = (word : List ℕ) → list_any (bytes_eq word) l.words
    ≡ (list_any (bytes_eq word) l.initial.words || contains (take l.name-index l.names) word)
