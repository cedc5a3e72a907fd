use Rattle.sm_violations.proofs.Truths.{head}
use Rattle.sm_violations.proofs.Refusals.{refused_by_head}
use Rattle.sm_violations.proofs.laws.first_of_all.Goals as goal

pub returns : goal.returns
returns c = record { first = head; refused = refused_by_head }
