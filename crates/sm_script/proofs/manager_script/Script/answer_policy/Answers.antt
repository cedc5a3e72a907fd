use Rattle.std.proofs.Common.{rules}
use Rattle.sm_script.proofs.Answered.{refused_answer}
use Rattle.sm_script.proofs.manager_script.Script.answer_policy.Goals as goal

-- The texts were refused, and the line was added.
pub returns-clause-ok : goal.returns-clause-ok
returns-clause-ok c =
    refused_answer c.push_policy_refused.result c.args.self.now c.args.texts c.in-Err.fault _ _ _ (search rules)
    c.push_policy_refused.ensures
