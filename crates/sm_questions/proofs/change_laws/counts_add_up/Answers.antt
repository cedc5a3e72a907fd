use Rattle.sm_questions.proofs.Counts.{add_up, same_any}
use Rattle.sm_questions.proofs.Tallied.{all_text}
use Rattle.sm_questions.proofs.change_laws.counts_add_up.Goals as goal

pub returns : goal.returns
returns c = record { sum = add_up; listed = all_text; same = same_any }
