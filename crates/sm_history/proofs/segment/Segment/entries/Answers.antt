use Rattle.std.proofs.Common.{subst}
use Rattle.sm_history.specs.Histories.{History}
use Rattle.sm_history.specs.Lawful.{ComesAbout}
use Rattle.sm_history.proofs.segment.Segment.entries.Goals as goal

pub returns-clause-lawful : goal.returns-clause-lawful
returns-clause-lawful c = subst (λ (h : History). ComesAbout h) c.self.view_is c.self.invariant
