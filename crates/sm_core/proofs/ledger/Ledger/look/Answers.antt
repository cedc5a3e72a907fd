use Rattle.sm_core.proofs.Small.{small_length}
use Rattle.sm_core.proofs.ledger.Ledger.look.Goals as goal

pub history_length-requires : goal.history_length-requires
history_length-requires c = small_length _ _ _ _ c.self.invariant
