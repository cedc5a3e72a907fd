use Rattle.sm_connection.proofs.sessions.session.Goals as goal

pub returns-clause-attends : goal.returns-clause-attends
returns-clause-attends g c = record {
  last = c.run-result.new.machine;
  served = rw c.new-gated_session.ensures at c.run-result.ensures.served;
  end = c.run-result.ensures.end;
  told = c.close.ensures;
}
