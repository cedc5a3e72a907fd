use Rattle.std.proofs.Common.{sym, subst}
use Rattle.sm_history.specs.Lawful.{ComesAbout}
use Rattle.sm_core.specs.Journals.{Written}
use Rattle.sm_core.proofs.journal.Journal.closed.Goals as goal

pub new-requires : goal.new-requires
new-requires c = subst (λ (j : Written). ComesAbout j.history) (sym c.self.view_is) c.requires
