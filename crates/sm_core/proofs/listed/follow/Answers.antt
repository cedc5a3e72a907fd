use Rattle.sm_core.proofs.listed.follow.Goals as goal

pub returns-in_ok-name-in-Adds-clause-tracks : goal.returns-in_ok-name-in-Adds-clause-tracks
returns-in_ok-name-in-Adds-clause-tracks c = rw c.in-Adds.is (λ d s m tr.
    rw (← c.in_ok-name-in-Adds.ensures.cases) (c.put.ensures.tracks d tr m))

pub returns-in-Removes-clause-tracks : goal.returns-in-Removes-clause-tracks
returns-in-Removes-clause-tracks c = rw c.in-Removes.is (λ d s m tr.
    rw (← c.bytes.ensures) (c.remove.ensures.tracks d tr))

pub returns-in-Dies-clause-tracks : goal.returns-in-Dies-clause-tracks
returns-in-Dies-clause-tracks c = rw c.in-Dies.is (λ d s m tr. c.remove_client.ensures.tracks d tr)
