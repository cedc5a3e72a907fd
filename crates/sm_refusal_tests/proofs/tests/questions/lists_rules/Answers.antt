use Rattle.sm_questions.proofs.Sources.{source_read}
use Rattle.sm_refusal_tests.proofs.tests.questions.lists_rules.Goals as goal

pub rules-requires-clause-source : goal.rules-requires-clause-source
rules-requires-clause-source g c = source_read _ _ _ c.in-Ok.ensures.exact
