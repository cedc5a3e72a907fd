use Rattle.sm_core.proofs.ledger.Ledger.judge_client_event.Goals as goal

pub returns-in-Add : goal.returns-in-Add
returns-in-Add c = rw c.in-Add.is c.judge_add.ensures
