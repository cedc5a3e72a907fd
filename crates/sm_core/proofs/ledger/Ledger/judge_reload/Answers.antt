use Rattle.std.proofs.Common.{arith}
use Rattle.sm_core.proofs.Small.{small_version}
use Rattle.sm_core.proofs.ledger.Ledger.judge_reload.Goals as goal

pub overflow_add-result : goal.overflow_add-result
overflow_add-result c = let v = small_version _ _ _ _ c.self.invariant in omega (arith, v)
