use Rattle.std.proofs.Common.{◌∙◌}
use Rattle.sm_questions.proofs.Keys.{any_key}
use Rattle.sm_questions.proofs.lookups.has_key.Goals as goal

pub returns : goal.returns
returns c = rw c.contexts.ensures at c.has_key.ensures ∙ any_key c.args.policy.now.entries c.args.key.now
