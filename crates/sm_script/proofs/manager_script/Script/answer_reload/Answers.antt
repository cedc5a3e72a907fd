use Rattle.sm_script.proofs.Answered.{reload_lost}
use Rattle.sm_script.proofs.manager_script.Script.answer_reload.Goals as goal

-- The reply was given, and its texts were lost.
pub returns-clause-err : goal.returns-clause-err
returns-clause-err c = rw (← c.self.view_is) (reload_lost c.answer_prepared.result _ _ c.args.texts.now c.args.policy _
    c.requires c.expected-expected.ensures c.answer_prepared.ensures.err)
