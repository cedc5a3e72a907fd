use Rattle.sm_violations.proofs.Truths.{each_true}
use Rattle.sm_violations.proofs.laws.each_is_true.Goals as goal

pub returns : goal.returns
returns c = each_true
