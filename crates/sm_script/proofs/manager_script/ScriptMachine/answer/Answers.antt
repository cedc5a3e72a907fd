use Rattle.sm_script.proofs.manager_script.ScriptMachine.answer.Goals as goal

pub returns-in-Asked-clause-err : goal.returns-in-Asked-clause-err
returns-in-Asked-clause-err c = rw c.in-Asked.is c.answer_request.ensures.err

pub returns-in-Policy-clause-err : goal.returns-in-Policy-clause-err
returns-in-Policy-clause-err c = rw c.in-Policy.is c.answer_policy.ensures.err
