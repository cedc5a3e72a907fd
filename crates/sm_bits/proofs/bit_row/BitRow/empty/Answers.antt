use Rattle.std.proofs.Common.{ℕ, List, ap, ◌∙◌}
use Rattle.sm_bits.specs.Bits.{has}
use Rattle.sm_bits.proofs.Words.{has_none}
use Rattle.sm_bits.proofs.bit_row.BitRow.empty.Goals as goal

pub returns-clause-none : goal.returns-clause-none
returns-clause-none c j = ap (λ (xs : List ℕ). has xs j) (c.in_ok-words.ensures.items_if_clones_equal (λ y e. e))
    ∙ has_none c.args.words j
