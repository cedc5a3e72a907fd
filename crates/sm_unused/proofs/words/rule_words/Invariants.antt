use Rattle.std.proofs.Common.{◌≡◌, ℕ, List, take}
use Rattle.std.specs.List.{list_any}
use Rattle.std.specs.Str.{bytes_eq}
use Rattle.sm_unused.specs.Declarations.{rule_has_word}
use Rattle.sm_unused.proofs.words.rule_words.Given as goal

abbrev pub invariant-loop-statement : goal.invariant-loop-statement
invariant-loop-statement l = (word : List ℕ) → list_any (bytes_eq word) l.words
    ≡ list_any (λ s. rule_has_word word s.what) (take l.statement-index l.statements)
