use Rattle.std.proofs.Common.{◌||◌}
use Rattle.sm_bits.proofs.Words.{Turned}
use Rattle.sm_bits.proofs.bit_row.union_words.Given as goal

abbrev pub invariant-loop-i : goal.invariant-loop-i
invariant-loop-i l = Turned (λ a b. a || b) l.initial.words l.words l.others l.i
