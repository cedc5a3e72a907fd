use Rattle.sm_core.proofs.manager.Manager.lawful.Goals as goal

pub returns-clause-lawful : goal.returns-clause-lawful
returns-clause-lawful c = rw (← c.self.view_is) c.lawful.ensures.lawful

pub returns-clause-fits : goal.returns-clause-fits
returns-clause-fits c = rw (← c.self.view_is) c.lawful.ensures.fits

pub returns-clause-few : goal.returns-clause-few
returns-clause-few c = rw (← c.self.view_is) c.lawful.ensures.few

pub returns-clause-records : goal.returns-clause-records
returns-clause-records c = rw (← c.self.view_is) c.self.invariant
