use Rattle.sm_violations.proofs.Truths.{each_told}
use Rattle.sm_violations.proofs.laws.each_clash_is_told.Goals as goal

pub returns : goal.returns
returns c = each_told
