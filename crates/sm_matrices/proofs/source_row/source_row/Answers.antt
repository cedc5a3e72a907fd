use Rattle.std.proofs.Common.{ℕ, List, ◌∙◌, ap, get_or}
use Rattle.sm_bits.specs.Bits.{has_bit}
use Rattle.sm_matrices.proofs.Reading.{no_bits}
use Rattle.sm_matrices.proofs.source_row.source_row.Goals as goal

pub mark_source-requires-clause-none : goal.mark_source-requires-clause-none
mark_source-requires-clause-none c t b h =
    ap (λ (xs : List ℕ). has_bit (get_or xs t 0) b)
    (c.deref_mut.ensures.value ∙ c.in_ok-bytes.ensures.items_if_clones_equal (λ y e. e))
    ∙ rw c.get.ensures.number (no_bits c.args.count t b h)
