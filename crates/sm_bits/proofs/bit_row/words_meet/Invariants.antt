use Rattle.sm_bits.proofs.Words.{Gathered}
use Rattle.sm_bits.proofs.bit_row.words_meet.Given as goal

abbrev pub invariant-loop-i : goal.invariant-loop-i
invariant-loop-i l = Gathered l.words l.others l.common l.i
