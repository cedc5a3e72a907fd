use Rattle.std.proofs.Common.{None}
use Rattle.sm_questions.proofs.Keys.{key_at}
use Rattle.sm_questions.proofs.lookups.key.Goals as goal

pub returns-in-None : goal.returns-in-None
returns-in-None c = key_at c.args.policy.now.entries c.args.index None (rw c.contexts.ensures at c.in-None.ensures)
