use Rattle.sm_unused.proofs.Removed.{decided_as_before, granted_as_before}
use Rattle.sm_unused.proofs.laws.removal_changes_nothing.Goals as goal

pub returns : goal.returns
returns c = record { granted = granted_as_before; decided = decided_as_before }
