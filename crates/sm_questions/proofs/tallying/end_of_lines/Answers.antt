use Rattle.std.proofs.Common.{◌∙◌, ap}
use Rattle.sm_questions.specs.Tallies.{end_of_kept}
use Rattle.sm_questions.proofs.Tallied.{end_is}
use Rattle.sm_questions.proofs.tallying.end_of_lines.Goals as goal

pub returns-clause-end : goal.returns-clause-end
returns-clause-end c = c.end_of_rules.ensures.end ∙ ap end_of_kept c.allows.ensures.kept
    ∙ end_is c.args.policy.now c.rules.result.now c.rules.ensures
