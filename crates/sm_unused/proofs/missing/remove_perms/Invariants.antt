use Rattle.sm_unused.proofs.Rows.{LackBelow}
use Rattle.sm_unused.proofs.missing.remove_perms.Given as goal

abbrev pub invariant-loop-bit : goal.invariant-loop-bit
invariant-loop-bit l = LackBelow l.initial.all.items l.all.items l.fn.count l.bit l.rule
