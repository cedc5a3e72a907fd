use Rattle.sm_history.proofs.Repeating.{judged_more, changes_repeat}
use Rattle.sm_history.proofs.laws.repeating.Goals as goal

pub returns-clause-more : goal.returns-clause-more
returns-clause-more c = judged_more

pub returns-clause-again : goal.returns-clause-again
returns-clause-again c = changes_repeat
