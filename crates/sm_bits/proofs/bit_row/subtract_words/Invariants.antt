use Rattle.std.proofs.Common.{◌&&◌, not}
use Rattle.sm_bits.proofs.Words.{Turned}
use Rattle.sm_bits.proofs.bit_row.subtract_words.Given as goal

abbrev pub invariant-loop-i : goal.invariant-loop-i
invariant-loop-i l = Turned (λ a b. a && not b) l.initial.words l.words l.others l.i
