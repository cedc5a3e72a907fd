use Rattle.sm_history.proofs.LeastFree.{free_is_free}
use Rattle.sm_history.proofs.laws.free_numbers.Goals as goal

pub returns : goal.returns
returns c = free_is_free
