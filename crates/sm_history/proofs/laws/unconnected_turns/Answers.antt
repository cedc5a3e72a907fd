use Rattle.sm_history.proofs.HistoryLaws.{no_turns}
use Rattle.sm_history.proofs.laws.unconnected_turns.Goals as goal

pub returns : goal.returns
returns c = no_turns
