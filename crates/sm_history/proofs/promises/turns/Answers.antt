use Rattle.sm_history.proofs.Turns.{out_of_turn, not_yours}
use Rattle.sm_history.proofs.promises.turns.Goals as goal

pub returns-clause-out : goal.returns-clause-out
returns-clause-out c = out_of_turn

pub returns-clause-yours : goal.returns-clause-yours
returns-clause-yours c = not_yours
