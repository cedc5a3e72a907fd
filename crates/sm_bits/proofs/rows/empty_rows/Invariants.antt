use Rattle.sm_bits.proofs.EmptyRows.{Empty}
use Rattle.sm_bits.proofs.rows.empty_rows.Given as goal

abbrev pub invariant-loop : goal.invariant-loop
invariant-loop l = Empty l.rows.items l.counter l.words
